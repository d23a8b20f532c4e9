use Rattle.std.proofs.Common.{subst, arith}
use Rattle.sat_core.specs.Storing.{AssertsUnit}
use Rattle.sat_core.proofs.PropagatedLemmas.{units-step, units-start}
use Rattle.sat_core.proofs.propagation.assert_units.Goals as goal

pub loop-place-init : goal.loop-place-init
loop-place-init c = units-start c.args.stored.now c.args.trail.now c.args.reasons.now.items c.args.looked c.requires.long c.requires.shorts

pub loop-place-preserved : goal.loop-place-preserved
loop-place-preserved c =
    units-step c.args.stored.now c.clause.result.now c.args.trail.now c.loop-place.trail c.assert_unit.new.trail c.args.reasons.now.items c.loop-place.reasons.items c.assert_unit.new.reasons.items c.loop-place.place c.clause.ensures (omega arith)
    (subst (AssertsUnit c.clause.result.now c.loop-place.place c.loop-place.trail c.assert_unit.new.trail c.loop-place.reasons.items c.assert_unit.new.reasons.items) c.if-not-stands.false c.in_ok-stands.ensures) c.loop-place.invariant
