use Rattle.std.proofs.Common.{◌≡◌, length}
use Rattle.script_core.specs.Forms.{stands_in}
use Rattle.script_core.proofs.form.stands_in.Given as goal

abbrev pub invariant-loop-section : goal.invariant-loop-section
invariant-loop-section l = stands_in l.kind l.left ≡ stands_in l.kind l.sections

abbrev pub decreases-loop-section : goal.decreases-loop-section
decreases-loop-section l = length l.left
