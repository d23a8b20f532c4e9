use Rattle.std.proofs.Common.{◌≡◌, Ok}
use Rattle.std.proofs.lemmas.Result.{err_from_is_err_and}
use Rattle.expr_read.specs.Names.{and_last}
use Rattle.lang_read.specs.Drivers.{new_cell}
use Rattle.expr_read.specs.Views.{Fails}
use Rattle.expr_read.proofs.Lists.{each-fails, each-goes, each-ends}
use Rattle.lang_read.proofs.driver.named_cells.Goals as goal

pub returns-in_err-cell : goal.returns-in_err-cell
returns-in_err-cell c =
    let p = err_from_is_err_and c.from_residual.result c.from_residual.ensures.1 in
    let f = c.in_err-cell.field-0.0 in
    let given : Fails f.why f (new_cell c.args.names.now c.loop-tree.cells c.tree-item.result) = rw c.as_slice.ensures at c.in_err-cell.ensures in
    rw (p.1, p.2) (each-fails (new_cell c.args.names.now) and_last c.loop-tree.cells c.args.trees.now c.loop-tree.tree-index c.tree-item.result _ f c.loop-tree-test.true c.tree-item.is c.loop-tree.invariant given)

pub loop-tree-preserved : goal.loop-tree-preserved
loop-tree-preserved c =
    let given : new_cell c.args.names.now c.loop-tree.cells c.tree-item.result ≡ Ok c.in_ok-cell.cell = rw c.as_slice.ensures at c.in_ok-cell.ensures in
    rw c.in_ok-push.ensures.ok (each-goes (new_cell c.args.names.now) and_last c.loop-tree.cells c.args.trees.now c.loop-tree.tree-index c.tree-item.result _ c.in_ok-cell.cell c.loop-tree-test.true c.tree-item.is c.loop-tree.invariant given)

pub returns : goal.returns
returns c = each-ends (new_cell c.args.names.now) and_last c.loop-tree.cells c.args.trees.now c.loop-tree.tree-index _ c.loop-tree-test.false c.loop-tree.invariant
