use Rattle.std.proofs.Common.{◌≡◌, Ok, ◌∙◌}
use Rattle.std.proofs.lemmas.Result.{err_from_is_err_and}
use Rattle.expr_read.specs.Names.{and_last}
use Rattle.expr_read.specs.Views.{Fails}
use Rattle.expr_read.proofs.Lists.{each-fails, each-goes, each-ends}
use Rattle.lang_read.specs.Calls.{call}
use Rattle.lang_read.proofs.calls.calls_of.Goals as goal

pub returns-in_err-call : goal.returns-in_err-call
returns-in_err-call c =
    let p = err_from_is_err_and c.from_residual.result c.from_residual.ensures.1 in
    let f = c.in_err-call.field-0.0 in
    let given : Fails f.why f (call c.args.home.now c.args.ops.now c.args.names.now c.loop-tree.calls c.tree-item.result) = rw (c.as_slice.ensures, c.loop-tree.invariant.0) at c.in_err-call.ensures.read in
    rw (p.1, p.2) (each-fails (call c.args.home.now c.args.ops.now c.args.names.now) and_last c.loop-tree.calls c.args.trees.now c.loop-tree.tree-index c.tree-item.result _ f c.loop-tree-test.true c.tree-item.is c.loop-tree.invariant.1 given)

pub loop-tree-preserved : goal.loop-tree-preserved
loop-tree-preserved c =
    let given : call c.args.home.now c.args.ops.now c.args.names.now c.loop-tree.calls c.tree-item.result ≡ Ok c.in_ok-call.call = rw (c.as_slice.ensures, c.loop-tree.invariant.0) at c.in_ok-call.ensures.read in
    (c.in_ok-call.ensures.names ∙ c.loop-tree.invariant.0, rw c.in_ok-push.ensures.ok (each-goes (call c.args.home.now c.args.ops.now c.args.names.now) and_last c.loop-tree.calls c.args.trees.now c.loop-tree.tree-index c.tree-item.result _ c.in_ok-call.call c.loop-tree-test.true c.tree-item.is c.loop-tree.invariant.1 given))

pub returns : goal.returns
returns c = each-ends (call c.args.home.now c.args.ops.now c.args.names.now) and_last c.loop-tree.calls c.args.trees.now c.loop-tree.tree-index _ c.loop-tree-test.false c.loop-tree.invariant.1
