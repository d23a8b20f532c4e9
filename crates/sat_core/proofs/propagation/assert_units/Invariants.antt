use Rattle.sat_core.proofs.PropagatedLemmas.{Looked}
use Rattle.sat_core.proofs.propagation.assert_units.Given as goal

abbrev pub invariant-loop-place : goal.invariant-loop-place
invariant-loop-place l = Looked l.stored l.fn.trail l.trail l.fn.reasons.items l.reasons.items l.place
