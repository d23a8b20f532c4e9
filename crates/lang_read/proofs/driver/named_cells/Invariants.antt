use Rattle.std.proofs.Common.{◌≡◌, drop}
use Rattle.expr_read.specs.Views.{each}
use Rattle.expr_read.specs.Names.{and_last}
use Rattle.lang_read.specs.Drivers.{new_cell, named_cells}
use Rattle.lang_read.proofs.driver.named_cells.Given as goal

abbrev pub invariant-loop-tree : goal.invariant-loop-tree
invariant-loop-tree l = each (new_cell l.names) and_last l.cells (drop l.tree-index l.trees) ≡ named_cells l.names l.trees
