use Rattle.std.proofs.Common.{length}
use Rattle.script_core.proofs.Parting.{Parting}
use Rattle.script_core.proofs.run.take_part.Given as goal

abbrev pub invariant-loop-width : goal.invariant-loop-width
invariant-loop-width l = Parting l.initial.known_left l.initial.wanted l.initial.left l.known_left l.wanted l.into l.left

abbrev pub decreases-loop-width : goal.decreases-loop-width
decreases-loop-width l = length l.wanted
