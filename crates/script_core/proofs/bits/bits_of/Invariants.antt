use Rattle.std.proofs.Common.{◌≡◌, ◌+◌, ◌≤◌, length}
use Rattle.knox_words.specs.Lists.{total}
use Rattle.script_core.specs.Runs.{counted}
use Rattle.script_core.proofs.bits.bits_of.Given as goal

abbrev pub invariant-loop-width : goal.invariant-loop-width
invariant-loop-width l = (l.sum ≤ 18446744073709551615) × (counted (l.sum + total l.left) ≡ counted (total l.widths))

abbrev pub decreases-loop-width : goal.decreases-loop-width
decreases-loop-width l = length l.left
