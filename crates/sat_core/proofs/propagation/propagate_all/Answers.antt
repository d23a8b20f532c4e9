use Rattle.std.proofs.Common.{◌∙◌, sym}
use Rattle.sat_core.proofs.Reasoning.{reasoned-on}
use Rattle.sat_core.proofs.PropagatedLemmas.{units-ready, units-false, all-propagated}
use Rattle.sat_core.proofs.propagation.propagate_all.Goals as goal

pub propagate-requires-clause-ready : goal.propagate-requires-clause-ready
propagate-requires-clause-ready c = units-ready c.args.stored.now c.args.lists.now c.args.trail.now c.assert_units.new.trail c.args.done c.requires.here c.requires.ready c.in_ok-unit.ensures.appends

pub returns-then-is_some-clause-propagated : goal.returns-then-is_some-clause-propagated
returns-then-is_some-clause-propagated c = units-false c.args.stored.now c.args.lists.now c.args.trail.now c.assert_units.new.trail c.args.done c.in_ok-unit.unit c.requires.ready c.in_ok-unit.ensures.appends (sym c.is_some.ensures ∙ c.if-is_some.true) c.in_ok-unit.ensures.units

pub returns-clause-propagated : goal.returns-clause-propagated
returns-clause-propagated c =
    all-propagated c.args.stored.now c.propagate.new.stored c.args.lists.now c.propagate.new.lists c.args.trail.now c.assert_units.new.trail c.propagate.new.trail c.args.done c.in_ok-unit.unit c.in_ok-conflict.conflict
    c.requires.ready c.in_ok-unit.ensures.appends (sym c.is_some.ensures ∙ c.if-is_some.false) c.in_ok-unit.ensures.units c.in_ok-conflict.ensures.passes

pub returns-clause-reasoned : goal.returns-clause-reasoned
returns-clause-reasoned c =
    reasoned-on c.args.stored.now c.args.stored.now c.propagate.new.stored c.args.trail.now c.assert_units.new.trail c.propagate.new.trail c.args.reasons.now.items c.assert_units.new.reasons.items c.propagate.new.reasons.items
    c.in_ok-conflict.ensures.passes.0.rewatched c.in_ok-unit.ensures.appends c.in_ok-conflict.ensures.passes.0.appends c.in_ok-unit.ensures.reasoned c.in_ok-conflict.ensures.reasoned
