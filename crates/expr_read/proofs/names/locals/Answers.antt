use Rattle.std.proofs.Common.{◌≡◌, Ok}
use Rattle.std.proofs.lemmas.Result.{err_from_is_err_and}
use Rattle.expr_read.specs.Names.{local, and_last}
use Rattle.expr_read.specs.Views.{Fails}
use Rattle.expr_read.proofs.Lists.{each-fails, each-goes, each-ends}
use Rattle.expr_read.proofs.names.locals.Goals as goal

pub returns-in_err-pair : goal.returns-in_err-pair
returns-in_err-pair c =
    let p = err_from_is_err_and c.from_residual.result c.from_residual.ensures.1 in
    let f = c.in_err-pair.field-0.0 in
    let given : Fails f.why f (local c.loop-tree.pairs c.tree-item.result) = rw c.as_slice.ensures at c.in_err-pair.ensures in
    rw (p.1, p.2) (each-fails local and_last c.loop-tree.pairs c.args.trees.now c.loop-tree.tree-index c.tree-item.result _ f c.loop-tree-test.true c.tree-item.is c.loop-tree.invariant given)

pub loop-tree-preserved : goal.loop-tree-preserved
loop-tree-preserved c =
    let given : local c.loop-tree.pairs c.tree-item.result ≡ Ok c.in_ok-pair.pair = rw c.as_slice.ensures at c.in_ok-pair.ensures in
    rw c.in_ok-push.ensures.ok (each-goes local and_last c.loop-tree.pairs c.args.trees.now c.loop-tree.tree-index c.tree-item.result _ c.in_ok-pair.pair c.loop-tree-test.true c.tree-item.is c.loop-tree.invariant given)

pub returns : goal.returns
returns c = each-ends local and_last c.loop-tree.pairs c.args.trees.now c.loop-tree.tree-index _ c.loop-tree-test.false c.loop-tree.invariant
