use Rattle.std.proofs.Common.{ℕ, ◌+◌, ◌≤◌, ◌<◌, ◌^◌, ◌∙◌, ◌++◌, ◌∷◌, [], sym, ap, subst, take}
use Rattle.std.proofs.Math.Seq.{take-suc}
use Rattle.sat_core.proofs.StoringLemmas.{above-step, at-most, literal-within}
use Rattle.sat_core.proofs.storing.widest_of.Goals as goal

pub loop-lit-preserved : goal.loop-lit-preserved
loop-lit-preserved c = (
  above-step c.args.lits.now c.loop-lit.lit-index c.loop-lit.widest c.greater-widest.result c.lit-item.result
      (take-suc c.args.lits.now c.loop-lit.lit-index c.lit-item.result c.loop-lit-test.true ∙ ap (λ l. take c.loop-lit.lit-index c.args.lits.now ++ l ∷ []) (sym c.lit-item.is))
      c.loop-lit.invariant.0 c.greater-widest.ensures.left c.var.ensures.literal.low (subst (λ n. n ≤ c.greater-widest.result) c.var.ensures.var c.greater-widest.ensures.right),
  c.greater-widest.ensures.one (2 ^ 63) c.loop-lit.invariant.1 (subst (λ n. n < 2 ^ 63) (sym c.var.ensures.var) c.var.ensures.literal.high),
  λ n h. at-most c.loop-lit.widest (c.greater-widest.result) n (c.greater-widest.ensures.one (n + 1)) (c.loop-lit.invariant.2 n h)
      (subst (λ (k : ℕ). k ≤ n) (sym c.var.ensures.var) (literal-within n c.args.lits.now c.loop-lit.lit-index c.lit-item.result c.loop-lit-test.true c.lit-item.is h)),
)
