use Rattle.std.proofs.Common.{◌≡◌, List, Ok, ◌∙◌}
use Rattle.std.proofs.lemmas.Result.{err_from_is_err_and}
use Rattle.knox_lang.specs.declared.parts.Body.{Body}
use Rattle.knox_lang.specs.declared.parts.OpHead.{OpHead}
use Rattle.expr_read.specs.Views.{Fails}
use Rattle.expr_read.proofs.Lists.{each-fails, each-goes, each-ends}
use Rattle.lang_read.specs.declared.spec.OpList.{OpList}
use Rattle.lang_read.specs.Specifications.{operation, and_op}
use Rattle.lang_read.proofs.spec.operations.Goals as goal

abbrev state : List OpHead → List Body → OpList
state hs bs = record { heads = hs; bodies = bs }

pub returns-in_err-op : goal.returns-in_err-op
returns-in_err-op c =
    let p = err_from_is_err_and c.from_residual.result c.from_residual.ensures.1 in
    let f = c.in_err-op.field-0.0 in
    let given : Fails f.why f (operation c.args.names.now c.loop-tree.heads c.tree-item.result) = rw (c.as_slice.ensures, c.loop-tree.invariant.0) at c.in_err-op.ensures.read in
    rw (p.1, p.2) (each-fails (λ (before : OpList). operation c.args.names.now before.heads) and_op (state c.loop-tree.heads c.loop-tree.bodies) c.args.trees.now c.loop-tree.tree-index c.tree-item.result _ f c.loop-tree-test.true c.tree-item.is c.loop-tree.invariant.1 given)

pub loop-tree-preserved : goal.loop-tree-preserved
loop-tree-preserved c =
    let given : operation c.args.names.now c.loop-tree.heads c.tree-item.result ≡ Ok c.in_ok-op.op = rw (c.as_slice.ensures, c.loop-tree.invariant.0) at c.in_ok-op.ensures.read in
    (c.in_ok-op.ensures.fields ∙ c.loop-tree.invariant.0, rw (c.in_ok-push.ensures.ok, c.in_ok-push-2.ensures.ok) (each-goes (λ (before : OpList). operation c.args.names.now before.heads) and_op (state c.loop-tree.heads c.loop-tree.bodies) c.args.trees.now c.loop-tree.tree-index c.tree-item.result _ c.in_ok-op.op c.loop-tree-test.true c.tree-item.is c.loop-tree.invariant.1 given))

pub returns : goal.returns
returns c = each-ends (λ (before : OpList). operation c.args.names.now before.heads) and_op (state c.loop-tree.heads c.loop-tree.bodies) c.args.trees.now c.loop-tree.tree-index _ c.loop-tree-test.false c.loop-tree.invariant.1
