use Rattle.std.proofs.Common.{◌≤◌}
use Rattle.sat_core.specs.Resolved.{Spared}
use Rattle.sat_core.proofs.analysis.spare.Given as goal

abbrev pub invariant-loop-q : goal.invariant-loop-q
invariant-loop-q l = (l.q ≤ l.end) × Spared l.stored l.trail l.reasons l.marks l.end l.q l.fn.cone.items l.cone.items l.left

abbrev pub decreases-loop-q : goal.decreases-loop-q
decreases-loop-q l = l.q
