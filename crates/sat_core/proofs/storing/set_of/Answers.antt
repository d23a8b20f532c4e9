use Rattle.std.proofs.Common.{◌∙◌, ◌++◌, ◌∷◌, [], sym, ap, take}
use Rattle.std.proofs.Math.Seq.{take-suc}
use Rattle.sat_core.proofs.StoringLemmas.{set-step}
use Rattle.sat_core.proofs.storing.set_of.Goals as goal

pub loop-lit-preserved : goal.loop-lit-preserved
loop-lit-preserved c = (
  c.in_ok-add_once.ensures.marks,
  set-step c.args.lits.now c.loop-lit.literals.items c.add_once.new.literals.items c.loop-lit.lit-index c.lit-item.result
      (take-suc c.args.lits.now c.loop-lit.lit-index c.lit-item.result c.loop-lit-test.true ∙ ap (λ l. take c.loop-lit.lit-index c.args.lits.now ++ l ∷ []) (sym c.lit-item.is))
      c.in_ok-add_once.ensures.adds c.loop-lit.invariant.1,
)
