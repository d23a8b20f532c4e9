-- Trying all choices, word by word: what a run still wants, for a search that goes down one word at a time.
-- The project's own, and a way to show that a script is closed. Nobody has to believe it: what it shows is proved.
use Rattle.std.specs.Prelude.{◌≡◌, ℕ, Option, Some, None, [], ◌∷◌, ◌++◌, if◌then◌else◌}
use Rattle.knox_words.specs.Lists.{Words, fits}
use Rattle.knox_theory.specs.Course.{Course, Check, Assume, Take, Mark, Tell, Done, Failed, run}

-- the width of the word that is wanted where these choices run out; none where the run ends before, or a word has another width
abbrev pub wants : Course → Words → Option ℕ
wants (Check ok h rest) cs = if ok then wants rest cs else None
wants (Assume ok rest) cs = if ok then wants rest cs else None
wants (Take w rest) [] = Some w
wants (Take w rest) (c ∷ cs) = if fits w c then wants (rest c) cs else None
wants (Mark l s rest) cs = wants rest cs
wants (Tell n rest) cs = wants rest cs
wants Done cs = None

-- no choices that begin so falsify a hint
pub record SafeFrom (t : Course) (front : Words) : Type 0 where
  pub never : (h : ℕ) (cs : Words) → run t (front ++ cs) ≡ Failed h → ⊥
