use Rattle.std.proofs.Common.{◌≡◌, ◌≤◌, ◌++◌, length}
use Rattle.knox_circuit.specs.Cells.{words_in, keep_mask}
use Rattle.knox_circuit.proofs.states.keep_mask.Given as goal

abbrev pub invariant-loop-cell : goal.invariant-loop-cell
invariant-loop-cell l = record {
  made : l.mask.items ++ keep_mask l.left l.kept ≡ keep_mask l.cells l.keep;
  few : words_in l.left ≤ 2000000;
}

abbrev pub decreases-loop-cell : goal.decreases-loop-cell
decreases-loop-cell l = length l.left
