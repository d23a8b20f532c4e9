use Rattle.std.proofs.Common.{◌≡◌, List, Ok}
use Rattle.std.proofs.lemmas.Result.{err_from_is_err_and}
use Rattle.knox_words.specs.Bits.{Bits}
use Rattle.knox_lang.specs.declared.parts.Field.{Field}
use Rattle.expr_read.specs.declared.fields.Fields.{Fields}
use Rattle.expr_read.specs.Views.{Fails}
use Rattle.expr_read.specs.Fields.{field, and_field}
use Rattle.expr_read.proofs.Lists.{each-fails, each-goes, each-ends}
use Rattle.expr_read.proofs.fields.fields_of.Goals as goal

abbrev state : List Field → List Bits → Fields
state fs ws = record { fields = fs; init = ws }

pub returns-in_err-field : goal.returns-in_err-field
returns-in_err-field c =
    let p = err_from_is_err_and c.from_residual.result c.from_residual.ensures.1 in
    let f = c.in_err-field.field-0.0 in
    let given : Fails f.why f (field c.loop-tree.fields c.tree-item.result) = rw c.as_slice.ensures at c.in_err-field.ensures in
    rw (p.1, p.2) (each-fails (λ (s : Fields). field s.fields) and_field (state c.loop-tree.fields c.loop-tree.init) c.args.trees.now c.loop-tree.tree-index c.tree-item.result _ f c.loop-tree-test.true c.tree-item.is c.loop-tree.invariant given)

pub loop-tree-preserved : goal.loop-tree-preserved
loop-tree-preserved c =
    let given : field c.loop-tree.fields c.tree-item.result ≡ Ok (c.in_ok-field.field, c.in_ok-field.word) = rw c.as_slice.ensures at c.in_ok-field.ensures in
    rw (c.in_ok-push.ensures.ok, c.in_ok-push-2.ensures.ok) (each-goes (λ (s : Fields). field s.fields) and_field (state c.loop-tree.fields c.loop-tree.init) c.args.trees.now c.loop-tree.tree-index c.tree-item.result _ (c.in_ok-field.field, c.in_ok-field.word) c.loop-tree-test.true c.tree-item.is c.loop-tree.invariant given)

pub returns : goal.returns
returns c = each-ends (λ (s : Fields). field s.fields) and_field (state c.loop-tree.fields c.loop-tree.init) c.args.trees.now c.loop-tree.tree-index _ c.loop-tree-test.false c.loop-tree.invariant
