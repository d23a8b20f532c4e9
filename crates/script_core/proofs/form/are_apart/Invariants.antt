use Rattle.std.proofs.Common.{◌≡◌, length}
use Rattle.script_core.specs.Hints.{kinds}
use Rattle.script_core.specs.Forms.{are_apart}
use Rattle.script_core.proofs.form.are_apart.Given as goal

abbrev pub invariant-loop-section : goal.invariant-loop-section
invariant-loop-section l = are_apart (kinds l.ops) l.left ≡ are_apart (kinds l.ops) l.sections

abbrev pub decreases-loop-section : goal.decreases-loop-section
decreases-loop-section l = length l.left
