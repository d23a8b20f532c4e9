use Rattle.std.proofs.Common.{◌≡◌, ◌≤◌, ◌++◌, length}
use Rattle.knox_circuit.specs.Cells.{words_in, state_widths}
use Rattle.knox_circuit.proofs.states.state_widths.Given as goal

abbrev pub invariant-loop-cell : goal.invariant-loop-cell
invariant-loop-cell l = record {
  made : l.widths.items ++ state_widths l.left ≡ state_widths l.cells;
  few : words_in l.left ≤ 2000000;
}

abbrev pub decreases-loop-cell : goal.decreases-loop-cell
decreases-loop-cell l = length l.left
