use Rattle.std.proofs.Common.{◌≡◌, Ok}
use Rattle.std.proofs.lemmas.Result.{err_from_is_err_and}
use Rattle.expr_read.specs.Views.{Fails}
use Rattle.expr_read.proofs.Lists.{each-fails, each-goes, each-ends}
use Rattle.script_read.specs.Scripts.{add, form}
use Rattle.script_read.proofs.script.forms.Goals as goal

pub returns-in_err-said : goal.returns-in_err-said
returns-in_err-said c =
    let p = err_from_is_err_and c.from_residual-in_err-said.result c.from_residual-in_err-said.ensures.1 in
    let f = c.in_err-said.field-0.0 in
    let given : Fails f.why f (form c.args.names.now c.args.ops.now c.loop-tree.draft c.tree-item.result) = c.in_err-said.ensures in
    rw (p.1, p.2) (each-fails (form c.args.names.now c.args.ops.now) add c.loop-tree.draft c.args.trees.now c.loop-tree.tree-index c.tree-item.result _ f c.loop-tree-test.true c.tree-item.is c.loop-tree.invariant given)

pub loop-tree-preserved : goal.loop-tree-preserved
loop-tree-preserved c =
    let given : form c.args.names.now c.args.ops.now c.loop-tree.draft c.tree-item.result ≡ Ok c.in_ok-said.said = c.in_ok-said.ensures in
    rw c.in_ok-add.ensures (each-goes (form c.args.names.now c.args.ops.now) add c.loop-tree.draft c.args.trees.now c.loop-tree.tree-index c.tree-item.result _ c.in_ok-said.said c.loop-tree-test.true c.tree-item.is c.loop-tree.invariant given)

pub returns : goal.returns
returns c = each-ends (form c.args.names.now c.args.ops.now) add c.loop-tree.draft c.args.trees.now c.loop-tree.tree-index _ c.loop-tree-test.false c.loop-tree.invariant
