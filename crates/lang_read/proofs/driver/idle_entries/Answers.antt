use Rattle.std.proofs.Common.{◌≡◌, Ok}
use Rattle.std.proofs.lemmas.Result.{err_from_is_err_and}
use Rattle.expr_read.specs.Names.{and_last}
use Rattle.lang_read.specs.Drivers.{idle_entry}
use Rattle.expr_read.specs.Views.{Fails}
use Rattle.expr_read.proofs.Lists.{each-fails, each-goes, each-ends}
use Rattle.lang_read.proofs.driver.idle_entries.Goals as goal

pub returns-in_err-entry : goal.returns-in_err-entry
returns-in_err-entry c =
    let p = err_from_is_err_and c.from_residual.result c.from_residual.ensures.1 in
    let f = c.in_err-entry.field-0.0 in
    let given : Fails f.why f (idle_entry c.args.inputs.now c.loop-tree.entries c.tree-item.result) = rw c.as_slice.ensures at c.in_err-entry.ensures in
    rw (p.1, p.2) (each-fails (idle_entry c.args.inputs.now) and_last c.loop-tree.entries c.args.trees.now c.loop-tree.tree-index c.tree-item.result _ f c.loop-tree-test.true c.tree-item.is c.loop-tree.invariant given)

pub loop-tree-preserved : goal.loop-tree-preserved
loop-tree-preserved c =
    let given : idle_entry c.args.inputs.now c.loop-tree.entries c.tree-item.result ≡ Ok c.in_ok-entry.entry = rw c.as_slice.ensures at c.in_ok-entry.ensures in
    rw c.in_ok-push.ensures.ok (each-goes (idle_entry c.args.inputs.now) and_last c.loop-tree.entries c.args.trees.now c.loop-tree.tree-index c.tree-item.result _ c.in_ok-entry.entry c.loop-tree-test.true c.tree-item.is c.loop-tree.invariant given)

pub returns : goal.returns
returns c = each-ends (idle_entry c.args.inputs.now) and_last c.loop-tree.entries c.args.trees.now c.loop-tree.tree-index _ c.loop-tree-test.false c.loop-tree.invariant
