use Rattle.std.proofs.lemmas.Result.{err_from_is_err_and}
use Rattle.std.proofs.Common.{◌≡◌, ◌<◌, subst, rules, ◌+◌, ◌*◌, ◌∙◌, arith, ap, Result}
use Rattle.expr_read.specs.declared.faults.LangFault.{LangFault}
use Rattle.expr_read.specs.declared.expression.Typed.{Typed}
use Rattle.expr_read.specs.Views.{Gives, Fails}
use Rattle.expr_read.specs.Expressions.{expr_of}
use Rattle.expr_read.proofs.Weights.{weight, weights, weight-List}
use Rattle.expr_read.proofs.Parts.{expr-Atom, expr-Number, expr-List, list-is}
use Rattle.expr_read.proofs.Numbered.{sliced-is, slice-unbounded, slice-unread, slice-goes, extended-is, longer-unbounded, longer-unread, longer-goes}
use Rattle.expr_read.proofs.expression.+expressions.Goals as goal

pub expr-returns-in-Atom : goal.expr-returns-in-Atom
expr-returns-in-Atom t c = rw (c.in-Atom.is, expr-Atom) (rw c.as_slice.ensures at c.named.ensures)

pub expr-returns-in-Number : goal.expr-returns-in-Number
expr-returns-in-Number t c = rw (c.in-Number.is, expr-Number) c.literal.ensures

pub expr-returns-in-List : goal.expr-returns-in-List
expr-returns-in-List t c = rw (c.in-List.is, expr-List) (rw c.as_slice-in-List.ensures at c.list.ensures)

pub expr-list-requires : goal.expr-list-requires
expr-list-requires t c =
    let w = weight-List c.in-List.at c.in-List.field-2 c.in-List.parts in
    let same : weights c.as_slice-in-List.result.now ≡ weights c.in-List.parts = ap weights c.as_slice-in-List.ensures in
    let tree : weight c.args.tree.now ≡ 1 + weights c.in-List.parts = ap weight c.in-List.is ∙ w in
    let lt : 4 * weights c.as_slice-in-List.result.now + 3 < 4 * weight c.args.tree.now = omega arith in
    search (rules, lt)

pub list-returns-in-len1-up : goal.list-returns-in-len1-up
list-returns-in-len1-up t c =
    let given = rw (c.place_of.ensures, c.head_of.ensures) at c.applied.ensures in
    subst (λ (read : Result Typed LangFault). Gives c.applied.result read) (list-is c.args.at c.args.parts.now c.head-item.result c.args.names.now c.in-len1-up.len_at_least c.head-item.is) given

pub sliced-returns-in_err-high-in-len3 : goal.sliced-returns-in_err-high-in-len3
sliced-returns-in_err-high-in-len3 t c =
    let p = err_from_is_err_and c.from_residual.result c.from_residual.ensures.1 in
    let f = c.in_err-high-in-len3.field-0.0 in
    let fails = slice-unbounded f c.args.at c.high-item.result c.low-item.result (expr_of c.x-item.result c.args.names.now) c.in_err-high-in-len3.ensures in
    rw (p.1, p.2) (subst (λ (read : Result Typed LangFault). Fails f.why f read) (sliced-is c.args.at c.args.parts.now c.high-item.result c.low-item.result c.x-item.result c.args.names.now c.in-len3.len_at_least c.in-len3.len_below c.high-item.is c.low-item.is c.x-item.is) fails)

pub sliced-returns-in_err-x-in-len3 : goal.sliced-returns-in_err-x-in-len3
sliced-returns-in_err-x-in-len3 t c =
    let p = err_from_is_err_and c.from_residual-in_err-x-in-len3.result c.from_residual-in_err-x-in-len3.ensures.1 in
    let f = c.in_err-x-in-len3.field-0.0 in
    let fails = slice-unread f c.args.at c.high-item.result c.low-item.result (expr_of c.x-item.result c.args.names.now) (c.in_ok-high-in-len3.high, c.in_ok-high-in-len3.low) c.in_ok-high-in-len3.ensures c.in_err-x-in-len3.ensures in
    rw (p.1, p.2) (subst (λ (read : Result Typed LangFault). Fails f.why f read) (sliced-is c.args.at c.args.parts.now c.high-item.result c.low-item.result c.x-item.result c.args.names.now c.in-len3.len_at_least c.in-len3.len_below c.high-item.is c.low-item.is c.x-item.is) fails)

pub sliced-returns-in_ok-x-in-len3 : goal.sliced-returns-in_ok-x-in-len3
sliced-returns-in_ok-x-in-len3 t c =
    let goes = slice-goes c.args.at c.high-item.result c.low-item.result (expr_of c.x-item.result c.args.names.now) (c.in_ok-high-in-len3.high, c.in_ok-high-in-len3.low) c.in_ok-x-in-len3.x c.in_ok-high-in-len3.ensures c.in_ok-x-in-len3.ensures in
    subst (λ (read : Result Typed LangFault). Gives c.slice_of.result read) (goes ∙ sliced-is c.args.at c.args.parts.now c.high-item.result c.low-item.result c.x-item.result c.args.names.now c.in-len3.len_at_least c.in-len3.len_below c.high-item.is c.low-item.is c.x-item.is) c.slice_of.ensures

pub extended-returns-in_err-more-in-len2 : goal.extended-returns-in_err-more-in-len2
extended-returns-in_err-more-in-len2 t c =
    let p = err_from_is_err_and c.from_residual.result c.from_residual.ensures.1 in
    let f = c.in_err-more-in-len2.field-0.0 in
    let fails = longer-unbounded f c.args.at c.args.bits c.more-item.result (expr_of c.x-item.result c.args.names.now) c.in_err-more-in-len2.ensures in
    rw (p.1, p.2) (subst (λ (read : Result Typed LangFault). Fails f.why f read) (extended-is c.args.at c.args.bits c.args.parts.now c.more-item.result c.x-item.result c.args.names.now c.in-len2.len_at_least c.in-len2.len_below c.more-item.is c.x-item.is) fails)

pub extended-returns-in_err-x-in-len2 : goal.extended-returns-in_err-x-in-len2
extended-returns-in_err-x-in-len2 t c =
    let p = err_from_is_err_and c.from_residual-in_err-x-in-len2.result c.from_residual-in_err-x-in-len2.ensures.1 in
    let f = c.in_err-x-in-len2.field-0.0 in
    let fails = longer-unread f c.args.at c.args.bits c.more-item.result (expr_of c.x-item.result c.args.names.now) c.in_ok-more-in-len2.more c.in_ok-more-in-len2.ensures c.in_err-x-in-len2.ensures in
    rw (p.1, p.2) (subst (λ (read : Result Typed LangFault). Fails f.why f read) (extended-is c.args.at c.args.bits c.args.parts.now c.more-item.result c.x-item.result c.args.names.now c.in-len2.len_at_least c.in-len2.len_below c.more-item.is c.x-item.is) fails)

pub extended-returns-in_ok-x-in-len2 : goal.extended-returns-in_ok-x-in-len2
extended-returns-in_ok-x-in-len2 t c =
    let goes = longer-goes c.args.at c.args.bits c.more-item.result (expr_of c.x-item.result c.args.names.now) c.in_ok-more-in-len2.more c.in_ok-x-in-len2.x c.in_ok-more-in-len2.ensures c.in_ok-x-in-len2.ensures in
    subst (λ (read : Result Typed LangFault). Gives c.longer_of.result read) (goes ∙ extended-is c.args.at c.args.bits c.args.parts.now c.more-item.result c.x-item.result c.args.names.now c.in-len2.len_at_least c.in-len2.len_below c.more-item.is c.x-item.is) c.longer_of.ensures
