use Rattle.std.proofs.Common.{◌≡◌, ◌<◌, ◌+◌, ◌*◌, ◌∙◌, ap, arith, rules, subst, ℕ, List, Result}
use Rattle.std.proofs.lemmas.Result.{err_from_is_err_and}
use Rattle.knox_lang.specs.declared.expr.Stmt.{Stmt}
use Rattle.expr_read.specs.declared.faults.LangFault.{LangFault}
use Rattle.expr_read.specs.declared.faults.LangWhy.TheVariants.{Form}
use Rattle.expr_read.specs.Views.{Gives}
use Rattle.expr_read.proofs.Weights.{weight, weights, weight-List, weight-at}
use Rattle.expr_read.proofs.Lists.{each-fails, each-goes, each-ends}
use Rattle.lang_read.specs.declared.statement.Step.{Step}
use Rattle.lang_read.specs.declared.statement.Steps.{Steps}
use Rattle.lang_read.specs.Statements.{stmt_of, inner_of, and_step}
use Rattle.lang_read.proofs.Faults.{refused}
use Rattle.lang_read.proofs.Parts.{stmt-Atom, stmt-Number, stmt-List, inner-Atom, inner-Number, inner-List, list-is, branch-is, assign-is, query-is, set_input-is, tick-is, repeat-is}
use Rattle.lang_read.proofs.statement.+statements.Goals as goal

-- ---- a list of statements

abbrev state : List Stmt → ℕ → Steps
state ss c = record { stmts = ss; cost = c }

pub block-returns-in_err-step : goal.block-returns-in_err-step
block-returns-in_err-step t c =
    let p = err_from_is_err_and c.from_residual.result c.from_residual.ensures.1 in
    let f = c.in_err-step.field-0.0 in
    rw (p.1, p.2) (each-fails (λ (before : Steps) u. stmt_of c.args.home.now u c.args.names.now) and_step (state c.loop-tree.stmts c.loop-tree.cost) c.args.trees.now c.loop-tree.tree-index c.tree-item.result _ f c.loop-tree-test.true c.tree-item.is c.loop-tree.invariant c.in_err-step.ensures)

pub block-loop-tree-preserved : goal.block-loop-tree-preserved
block-loop-tree-preserved t c =
    rw (c.saturating_add-cost.ensures, c.in_ok-push.ensures.ok) (each-goes (λ (before : Steps) u. stmt_of c.args.home.now u c.args.names.now) and_step (state c.loop-tree.stmts c.loop-tree.cost) c.args.trees.now c.loop-tree.tree-index c.tree-item.result _ c.in_ok-step.step c.loop-tree-test.true c.tree-item.is c.loop-tree.invariant c.in_ok-step.ensures)

pub block-returns : goal.block-returns
block-returns t c = each-ends (λ (before : Steps) u. stmt_of c.args.home.now u c.args.names.now) and_step (state c.loop-tree.stmts c.loop-tree.cost) c.args.trees.now c.loop-tree.tree-index _ c.loop-tree-test.false c.loop-tree.invariant

pub block-statement-requires : goal.block-statement-requires
block-statement-requires t c =
    let le = weight-at c.args.trees.now c.loop-tree.tree-index c.tree-item.result c.loop-tree-test.true c.tree-item.is in
    let lt : 6 * weight c.tree-item.result < 6 * weights c.args.trees.now + 1 = omega (arith, le) in
    search (rules, lt)

-- ---- one statement

pub statement-returns-in-Atom : goal.statement-returns-in-Atom
statement-returns-in-Atom t c =
    refused c.fault.result (stmt_of c.args.home.now c.args.tree.now c.args.names.now) c.in-Atom.at Form c.fault.ensures (stmt-Atom c.args.home.now c.args.tree.now c.in-Atom.at c.in-Atom.field-1 c.args.names.now c.in-Atom.is)

pub statement-returns-in-Number : goal.statement-returns-in-Number
statement-returns-in-Number t c =
    refused c.fault-in-Number.result (stmt_of c.args.home.now c.args.tree.now c.args.names.now) c.in-Number.at Form c.fault-in-Number.ensures (stmt-Number c.args.home.now c.args.tree.now c.in-Number.at c.in-Number.field-1 c.in-Number.field-2 c.args.names.now c.in-Number.is)

pub statement-returns-in-List : goal.statement-returns-in-List
statement-returns-in-List t c =
    subst (λ (read : Result Step LangFault). Gives c.begun.result read) (stmt-List c.args.home.now c.args.tree.now c.in-List.at c.in-List.field-2 c.in-List.parts c.args.names.now c.in-List.is) (rw c.as_slice.ensures at c.begun.ensures)

pub statement-begun-requires : goal.statement-begun-requires
statement-begun-requires t c =
    let w = weight-List c.in-List.at c.in-List.field-2 c.in-List.parts in
    let same : weights c.as_slice.result.now ≡ weights c.in-List.parts = ap weights c.as_slice.ensures in
    let tree : weight c.args.tree.now ≡ 1 + weights c.in-List.parts = ap weight c.in-List.is ∙ w in
    let lt : 6 * weights c.as_slice.result.now + 5 < 6 * weight c.args.tree.now = omega arith in
    search (rules, lt)

pub begun-returns-in-len1-up : goal.begun-returns-in-len1-up
begun-returns-in-len1-up t c =
    let given = rw (c.keyword_of.ensures, c.place_of.ensures) at c.form.ensures in
    subst (λ (read : Result Step LangFault). Gives c.form.result read) (list-is c.args.home.now c.args.at c.args.parts.now c.head-item.result c.args.names.now c.in-len1-up.len_at_least c.head-item.is) given

pub form-returns-in-Assign : goal.form-returns-in-Assign
form-returns-in-Assign t c =
    subst (λ (read : Result Step LangFault). Gives c.assign.result read) (assign-is c.args.home.now c.args.at c.args.head_place c.args.keyword c.args.parts.now c.args.names.now c.in-Assign.is) c.assign.ensures

pub form-returns-in-Query : goal.form-returns-in-Query
form-returns-in-Query t c =
    subst (λ (read : Result Step LangFault). Gives c.query.result read) (query-is c.args.home.now c.args.at c.args.head_place c.args.keyword c.args.parts.now c.args.names.now c.in-Query.is) (rw c.ops_in.ensures at c.query.ensures)

pub form-returns-in-SetInput : goal.form-returns-in-SetInput
form-returns-in-SetInput t c =
    subst (λ (read : Result Step LangFault). Gives c.set_input.result read) (set_input-is c.args.home.now c.args.at c.args.head_place c.args.keyword c.args.parts.now c.args.names.now c.in-SetInput.is) (rw c.inputs_in.ensures at c.set_input.ensures)

pub form-returns-in-Tick : goal.form-returns-in-Tick
form-returns-in-Tick t c =
    subst (λ (read : Result Step LangFault). Gives c.tick.result read) (tick-is c.args.home.now c.args.at c.args.head_place c.args.keyword c.args.parts.now c.args.names.now c.in-Tick.is) c.tick.ensures

pub branch-returns-in-len3 : goal.branch-returns-in-len3
branch-returns-in-len3 t c =
    subst (λ (read : Result Step LangFault). Gives c.branched.result read) (branch-is c.args.home.now c.args.at c.args.parts.now c.e-item.result c.a-item.result c.b-item.result c.args.names.now c.in-len3.len_at_least c.in-len3.len_below c.e-item.is c.a-item.is c.b-item.is) c.branched.ensures

pub repeat-returns-in-len2-up : goal.repeat-returns-in-len2-up
repeat-returns-in-len2-up t c =
    subst (λ (read : Result Step LangFault). Gives c.repeated.result read) (repeat-is c.args.home.now c.args.at c.args.parts.now c.e-item.result c.n-item.result c.args.names.now c.in-len2-up.len_at_least c.e-item.is c.n-item.is) c.repeated.ensures

-- ---- the statements of a list

pub inner-returns-in-Atom : goal.inner-returns-in-Atom
inner-returns-in-Atom t c =
    refused c.fault.result (inner_of c.args.home.now c.args.tree.now c.args.names.now) c.in-Atom.at Form c.fault.ensures (inner-Atom c.args.home.now c.args.tree.now c.in-Atom.at c.in-Atom.field-1 c.args.names.now c.in-Atom.is)

pub inner-returns-in-Number : goal.inner-returns-in-Number
inner-returns-in-Number t c =
    refused c.fault-in-Number.result (inner_of c.args.home.now c.args.tree.now c.args.names.now) c.in-Number.at Form c.fault-in-Number.ensures (inner-Number c.args.home.now c.args.tree.now c.in-Number.at c.in-Number.field-1 c.in-Number.field-2 c.args.names.now c.in-Number.is)

pub inner-returns-in-List : goal.inner-returns-in-List
inner-returns-in-List t c =
    subst (λ (read : Result Steps LangFault). Gives c.block.result read) (inner-List c.args.home.now c.args.tree.now c.in-List.field-0 c.in-List.field-2 c.in-List.parts c.args.names.now c.in-List.is) (rw c.as_slice.ensures at c.block.ensures)

pub inner-block-requires : goal.inner-block-requires
inner-block-requires t c =
    let w = weight-List c.in-List.field-0 c.in-List.field-2 c.in-List.parts in
    let same : weights c.as_slice.result.now ≡ weights c.in-List.parts = ap weights c.as_slice.ensures in
    let tree : weight c.args.tree.now ≡ 1 + weights c.in-List.parts = ap weight c.in-List.is ∙ w in
    let lt : 6 * weights c.as_slice.result.now + 1 < 6 * weight c.args.tree.now + 1 = omega arith in
    search (rules, lt)
