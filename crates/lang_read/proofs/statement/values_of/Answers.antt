use Rattle.std.proofs.Common.{ℕ, List}
use Rattle.std.proofs.lemmas.Result.{err_from_is_err_and}
use Rattle.knox_lang.specs.declared.expr.Expr.{Expr}
use Rattle.expr_read.specs.Expressions.{expr_of}
use Rattle.expr_read.proofs.Lists.{each-fails, each-goes, each-ends}
use Rattle.lang_read.specs.declared.statement.Values.{Values}
use Rattle.lang_read.specs.Statements.{and_value}
use Rattle.lang_read.proofs.statement.values_of.Goals as goal

abbrev state : List Expr → List ℕ → ℕ → Values
state es ws c = record { exprs = es; widths = ws; cost = c }

pub returns-in_err-x : goal.returns-in_err-x
returns-in_err-x c =
    let p = err_from_is_err_and c.from_residual.result c.from_residual.ensures.1 in
    let f = c.in_err-x.field-0.0 in
    rw (p.1, p.2) (each-fails (λ (before : Values) t. expr_of t c.args.names.now) and_value (state c.loop-tree.exprs c.loop-tree.widths c.loop-tree.cost) c.args.trees.now c.loop-tree.tree-index c.tree-item.result _ f c.loop-tree-test.true c.tree-item.is c.loop-tree.invariant c.in_err-x.ensures)

pub loop-tree-preserved : goal.loop-tree-preserved
loop-tree-preserved c =
    rw (c.saturating_add-cost.ensures, c.in_ok-push.ensures.ok, c.in_ok-push-2.ensures.ok) (each-goes (λ (before : Values) t. expr_of t c.args.names.now) and_value (state c.loop-tree.exprs c.loop-tree.widths c.loop-tree.cost) c.args.trees.now c.loop-tree.tree-index c.tree-item.result _ c.in_ok-x.x c.loop-tree-test.true c.tree-item.is c.loop-tree.invariant c.in_ok-x.ensures)

pub returns : goal.returns
returns c = each-ends (λ (before : Values) t. expr_of t c.args.names.now) and_value (state c.loop-tree.exprs c.loop-tree.widths c.loop-tree.cost) c.args.trees.now c.loop-tree.tree-index _ c.loop-tree-test.false c.loop-tree.invariant
