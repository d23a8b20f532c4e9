use Rattle.std.proofs.Common.{◌≡◌, length, slice_get}
use Rattle.script_core.specs.Hints.{roots}
use Rattle.script_core.proofs.script.root_among.Given as goal

abbrev pub invariant-loop-section : goal.invariant-loop-section
invariant-loop-section l = slice_get (roots l.left) l.wanted ≡ slice_get (roots l.sections) l.number

abbrev pub decreases-loop-section : goal.decreases-loop-section
decreases-loop-section l = length l.left
