use Rattle.std.proofs.Common.{◌≡◌, ◌+◌, ◌≤◌, length}
use Rattle.knox_circuit.specs.Cells.{keep_mask}
use Rattle.script_core.specs.Runs.{counted}
use Rattle.script_core.proofs.Counting.{both_total}
use Rattle.script_core.proofs.bits.bits_of_kept.Given as goal

abbrev pub invariant-loop-cell : goal.invariant-loop-cell
invariant-loop-cell l = (l.sum ≤ 18446744073709551615) × (counted (l.sum + both_total (keep_mask l.left l.marks) l.beyond l.sizes) ≡ counted (both_total (keep_mask l.cells l.keep) l.free l.widths))

abbrev pub decreases-loop-cell : goal.decreases-loop-cell
decreases-loop-cell l = length l.left
