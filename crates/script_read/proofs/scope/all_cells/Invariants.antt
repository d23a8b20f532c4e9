use Rattle.std.proofs.Common.{◌≡◌, take}
use Rattle.script_read.specs.Scripts.{all_cells}
use Rattle.script_read.proofs.scope.all_cells.Given as goal

abbrev pub invariant-loop-cell : goal.invariant-loop-cell
invariant-loop-cell l = l.marks ≡ all_cells (take l.cell-index l.cells)
