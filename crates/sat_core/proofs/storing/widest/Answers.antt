use Rattle.std.proofs.Common.{◌+◌, ◌^◌, ◌∙◌, ◌++◌, ◌∷◌, [], sym, ap, take}
use Rattle.knox_cnf.specs.Formulas.{clause_within}
use Rattle.std.proofs.Math.Seq.{take-suc}
use Rattle.sat_core.proofs.StoringLemmas.{all-above-step, all-above, at-most, clause-inside}
use Rattle.sat_core.proofs.storing.widest.Goals as goal

pub loop-clause-preserved : goal.loop-clause-preserved
loop-clause-preserved c = (
  all-above-step c.args.clauses.now c.loop-clause.clause-index c.loop-clause.widest c.widest_of.result c.greater-widest.result c.lits.result.now c.clause-item.result
      (take-suc c.args.clauses.now c.loop-clause.clause-index c.clause-item.result c.loop-clause-test.true ∙ ap (λ l. take c.loop-clause.clause-index c.args.clauses.now ++ l ∷ []) (sym c.clause-item.is))
      c.loop-clause.invariant.0 c.greater-widest.ensures.left c.greater-widest.ensures.right c.lits.ensures c.widest_of.ensures.above,
  c.greater-widest.ensures.one (2 ^ 63) c.loop-clause.invariant.1 c.widest_of.ensures.small,
  λ n h. at-most c.loop-clause.widest c.greater-widest.result n (c.greater-widest.ensures.one (n + 1)) (c.loop-clause.invariant.2 n h)
      (c.widest_of.ensures.least n (ap (clause_within n) c.lits.ensures ∙ clause-inside n c.args.clauses.now c.loop-clause.clause-index c.clause-item.result c.loop-clause-test.true c.clause-item.is h)),
)

pub returns-clause-above : goal.returns-clause-above
returns-clause-above c = all-above c.args.clauses.now c.loop-clause.clause-index c.loop-clause.widest c.loop-clause-test.false c.loop-clause.invariant.0
