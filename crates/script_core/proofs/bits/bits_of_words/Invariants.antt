use Rattle.std.proofs.Common.{◌≡◌, ◌+◌, ◌≤◌, length}
use Rattle.knox_words.specs.Lists.{total}
use Rattle.knox_lang.specs.WellFormed.{word_widths}
use Rattle.script_core.specs.Runs.{counted}
use Rattle.script_core.proofs.bits.bits_of_words.Given as goal

abbrev pub invariant-loop-word : goal.invariant-loop-word
invariant-loop-word l = (l.sum ≤ 18446744073709551615) × (counted (l.sum + total (word_widths l.left)) ≡ counted (total (word_widths l.words)))

abbrev pub decreases-loop-word : goal.decreases-loop-word
decreases-loop-word l = length l.left
