use Rattle.std.proofs.Common.{◌≡◌, take, map}
use Rattle.emu_machine.specs.Fields.{cell_field}
use Rattle.emu_machine.proofs.fields.fields_of.Given as goal

abbrev pub invariant-loop-cell : goal.invariant-loop-cell
invariant-loop-cell l = l.fields ≡ map cell_field (take l.cell-index l.cells)
