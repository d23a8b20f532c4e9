use Rattle.std.proofs.Common.{◌≡◌, ℕ, ◌+◌, ◌*◌, ◌<◌, ◌++◌, ◌∷◌, []}
use Rattle.knox_words.specs.Bits.{bits}
use Rattle.knox_theory.specs.Searched.{SafeFrom}
use Rattle.script_core.specs.Rooms.{made_for}
use Rattle.script_core.specs.Runs.{segments_of, course_at}
use Rattle.script_core.proofs.decide.+search.Given as goal

abbrev pub decreases-search : goal.decreases-search
decreases-search l = 3 * l.left + 2

abbrev pub decreases-try_words : goal.decreases-try_words
decreases-try_words l = 3 * l.left + 1

abbrev pub decreases-try_word : goal.decreases-try_word
decreases-try_word l = 3 * l.left

abbrev pub invariant-try_words-loop-value : goal.invariant-try_words-loop-value
invariant-try_words-loop-value l =
    (l.front ≡ l.initial.front)
    × (made_for l.room ≡ made_for l.initial.room)
    × ((v : ℕ) → v < l.value → SafeFrom (course_at (segments_of l.dev.circuit l.dev.spec l.dev.driver l.dev.emulator l.sc) l.g.0) (l.initial.front ++ bits l.width v ∷ []))
