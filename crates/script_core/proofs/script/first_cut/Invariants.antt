use Rattle.std.proofs.Common.{◌≡◌, length}
use Rattle.script_core.specs.Hints.{first_cut}
use Rattle.script_core.proofs.script.first_cut.Given as goal

abbrev pub invariant-loop-item : goal.invariant-loop-item
invariant-loop-item l = first_cut l.left ≡ first_cut l.items

abbrev pub decreases-loop-item : goal.decreases-loop-item
decreases-loop-item l = length l.left
