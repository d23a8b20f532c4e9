use Rattle.std.proofs.Common.{◌≡◌, length}
use Rattle.script_read.specs.Scripts.{is_left}
use Rattle.script_read.proofs.draft.is_left.Given as goal

abbrev pub invariant-loop-other : goal.invariant-loop-other
invariant-loop-other l = is_left l.kind l.rest ≡ is_left l.kind l.left

abbrev pub decreases-loop-other : goal.decreases-loop-other
decreases-loop-other l = length l.rest
