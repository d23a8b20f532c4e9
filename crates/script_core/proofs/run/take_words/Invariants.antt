use Rattle.std.proofs.Common.{length}
use Rattle.script_core.proofs.Reaching.{Taking}
use Rattle.script_core.proofs.run.take_words.Given as goal

abbrev pub invariant-loop-width : goal.invariant-loop-width
invariant-loop-width l = Taking l.initial.wanted l.initial.left l.wanted l.into l.left

abbrev pub decreases-loop-width : goal.decreases-loop-width
decreases-loop-width l = length l.wanted
