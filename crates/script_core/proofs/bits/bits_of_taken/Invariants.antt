use Rattle.std.proofs.Common.{◌≡◌, ◌+◌, ◌≤◌, length}
use Rattle.knox_words.specs.Lists.{total, pick}
use Rattle.script_core.specs.Runs.{counted}
use Rattle.script_core.proofs.bits.bits_of_taken.Given as goal

abbrev pub invariant-loop-mark : goal.invariant-loop-mark
invariant-loop-mark l = (l.sum ≤ 18446744073709551615) × (counted (l.sum + total (pick l.marks l.left)) ≡ counted (total (pick l.mask l.widths)))

abbrev pub decreases-loop-mark : goal.decreases-loop-mark
decreases-loop-mark l = length l.marks
