use Rattle.std.proofs.Common.{◌≡◌, length}
use Rattle.script_core.specs.Hints.{behind_cut}
use Rattle.script_core.proofs.script.behind_cut.Given as goal

abbrev pub invariant-loop-item : goal.invariant-loop-item
invariant-loop-item l = behind_cut l.left ≡ behind_cut l.items

abbrev pub decreases-loop-item : goal.decreases-loop-item
decreases-loop-item l = length l.left
