use Rattle.std.proofs.Common.{◌≡◌, ◌++◌, length}
use Rattle.script_read.specs.Scripts.{less}
use Rattle.script_read.proofs.draft.less.Given as goal

abbrev pub invariant-loop-other : goal.invariant-loop-other
invariant-loop-other l = l.kept ++ less l.kind l.rest ≡ less l.kind l.left

abbrev pub decreases-loop-other : goal.decreases-loop-other
decreases-loop-other l = length l.rest
