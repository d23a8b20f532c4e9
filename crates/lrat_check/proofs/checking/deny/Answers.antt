use Rattle.std.proofs.Common.{◌≡◌, ◌∙◌, rules, get_or, sym, arith, length}
use Rattle.knox_cnf.specs.Literals.{complement}
use Rattle.lrat_check.specs.Marks.{with_true}
use Rattle.lrat_check.proofs.HintSteps.{deny-more, deny-end, Extends-with, Extends-then}
use Rattle.lrat_check.proofs.checking.deny.Goals as goal

pub loop-lit-preserved : goal.loop-lit-preserved
loop-lit-preserved c =
    let e : c.lit-item.result ≡ get_or c.args.lits.now c.loop-lit.lit-index c.lit-item.result = search rules in
    let taken : c.assume.new.self ≡ with_true c.loop-lit.marks (complement c.lit-item.result) = search rules in
    record {
      left = c.loop-lit.invariant.left ∙ rw taken (deny-more c.loop-lit.marks c.args.lits.now c.loop-lit.lit-index c.lit-item.result c.lit-item.result (omega arith) e);
      more = rw taken (Extends-then _ _ _ c.loop-lit.invariant.more (Extends-with c.loop-lit.marks (complement c.lit-item.result)));
    }

pub returns-clause-ok : goal.returns-clause-ok
returns-clause-ok c =
    let at : c.loop-lit.lit-index ≡ length c.args.lits.now = omega arith in
    sym (c.loop-lit.invariant.left ∙ deny-end c.loop-lit.marks c.args.lits.now c.loop-lit.lit-index at)
