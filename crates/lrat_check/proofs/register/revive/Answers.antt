use Rattle.std.proofs.Common.{◌∙◌, ap}
use Rattle.lrat_check.specs.Register.{revived_at}
use Rattle.lrat_check.proofs.PlaceLemmas.{revive-step}
use Rattle.lrat_check.proofs.register.revive.Goals as goal

pub loop-last-preserved : goal.loop-last-preserved
loop-last-preserved c =
    revive-step c.args.formula c.args.ids.now c.loop-last.live c.set_live.new.live _ c.loop-last.left.now c.in-Some.before.now c.in-Some.last.now c.in-Some.ensures.cases.0
    (c.set_live.ensures ∙ ap (revived_at c.loop-last.live) c.in-Some-place.ensures) c.loop-last.invariant

pub loop-last-preserved-in-None : goal.loop-last-preserved-in-None
loop-last-preserved-in-None c =
    revive-step c.args.formula c.args.ids.now c.loop-last.live c.loop-last.live _ c.loop-last.left.now c.in-Some.before.now c.in-Some.last.now c.in-Some.ensures.cases.0
    (ap (revived_at c.loop-last.live) c.in-None.ensures) c.loop-last.invariant
