use Rattle.std.proofs.Common.{◌≡◌, length}
use Rattle.script_core.specs.Hints.{items_of_kind}
use Rattle.script_core.proofs.form.items_of_kind.Given as goal

abbrev pub invariant-loop-section : goal.invariant-loop-section
invariant-loop-section l = items_of_kind l.kind l.left ≡ items_of_kind l.kind l.sections

abbrev pub decreases-loop-section : goal.decreases-loop-section
decreases-loop-section l = length l.left
