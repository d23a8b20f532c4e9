use Rattle.std.proofs.Common.{◌≡◌, length}
use Rattle.script_core.specs.Hints.{hint_of_kind}
use Rattle.script_core.proofs.form.hint_of_kind.Given as goal

abbrev pub invariant-loop-section : goal.invariant-loop-section
invariant-loop-section l = hint_of_kind l.kind l.left ≡ hint_of_kind l.kind l.sections

abbrev pub decreases-loop-section : goal.decreases-loop-section
decreases-loop-section l = length l.left
