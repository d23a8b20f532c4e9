use Rattle.std.proofs.Common.{◌≡◌, length}
use Rattle.script_core.specs.Forms.{last_hint}
use Rattle.script_core.proofs.script.last_hint.Given as goal

abbrev pub invariant-loop-section : goal.invariant-loop-section
invariant-loop-section l = last_hint l.last.0 l.left ≡ last_hint 0 l.sections

abbrev pub decreases-loop-section : goal.decreases-loop-section
decreases-loop-section l = length l.left
