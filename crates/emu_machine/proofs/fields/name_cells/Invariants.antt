use Rattle.std.proofs.Common.{◌≡◌, length}
use Rattle.emu_machine.specs.Fields.{name_cells}
use Rattle.emu_machine.proofs.fields.name_cells.Given as goal

abbrev pub invariant-loop-field : goal.invariant-loop-field
invariant-loop-field l = name_cells l.left l.right ≡ name_cells l.initial.left l.initial.right

abbrev pub decreases-loop-field : goal.decreases-loop-field
decreases-loop-field l = length l.left
