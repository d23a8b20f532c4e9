use Rattle.std.proofs.Common.{◌≡◌, ◌++◌, drop}
use Rattle.expr_read.specs.Names.{cell_names}
use Rattle.expr_read.proofs.names.declare_cells.Given as goal

abbrev pub invariant-loop-cell : goal.invariant-loop-cell
invariant-loop-cell l = (l.number ≡ l.cell-index) × (l.names ++ cell_names l.number (drop l.cell-index l.cells) ≡ l.initial.names ++ cell_names 0 l.cells)
