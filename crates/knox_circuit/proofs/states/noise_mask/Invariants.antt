use Rattle.std.proofs.Common.{◌≡◌, ◌++◌, length}
use Rattle.knox_circuit.specs.Cells.{noise_mask}
use Rattle.knox_circuit.proofs.states.noise_mask.Given as goal

abbrev pub invariant-loop-state : goal.invariant-loop-state
invariant-loop-state l = l.mask.items ++ noise_mask l.left l.kept ≡ noise_mask l.states l.keep

abbrev pub decreases-loop-state : goal.decreases-loop-state
decreases-loop-state l = length l.left
