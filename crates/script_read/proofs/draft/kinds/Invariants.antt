use Rattle.std.proofs.Common.{◌≡◌, ◌++◌}
use Rattle.script_core.specs.Hints.{kinds, call_kinds}
use Rattle.script_read.proofs.draft.kinds.Given as goal

abbrev pub invariant-loop-left : goal.invariant-loop-left
invariant-loop-left l = l.all ++ call_kinds l.left ≡ kinds l.fn.ops

abbrev pub decreases-loop-left : goal.decreases-loop-left
decreases-loop-left l = l.left
