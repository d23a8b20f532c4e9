use Rattle.std.proofs.Common.{◌∙◌, ◌++◌, ◌∷◌, [], sym, ap, take}
use Rattle.std.proofs.Math.Seq.{take-suc}
use Rattle.std.proofs.lemmas.List.{take_all}
use Rattle.knox_cnf.specs.Literals.{has}
use Rattle.sat_core.specs.Resolved.{IsHeld}
use Rattle.sat_core.proofs.Members.{each-step}
use Rattle.sat_core.proofs.analysis.are_covered.Goals as goal

pub loop-lit-preserved : goal.loop-lit-preserved
loop-lit-preserved c =
    each-step (IsHeld c.args.trail.now c.args.marks.now c.args.place) c.args.lits.now c.loop-lit.lit-index c.lit-item.result
    (take-suc c.args.lits.now c.loop-lit.lit-index c.lit-item.result c.loop-lit-test.true ∙ ap (λ l. take c.loop-lit.lit-index c.args.lits.now ++ l ∷ []) (sym c.lit-item.is))
    c.loop-lit.invariant (c.is_covered.ensures c.if-not-is_covered.false)

pub returns : goal.returns
returns c = λ _ x h. c.loop-lit.invariant x (ap (λ ls. has ls x) (take_all c.loop-lit.lit-index c.args.lits.now c.loop-lit-test.false) ∙ h)
