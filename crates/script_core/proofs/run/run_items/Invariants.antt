use Rattle.std.proofs.Common.{◌≡◌, drop, true}
use Rattle.knox_words.specs.Lists.{fit}
use Rattle.knox_circuit.specs.Cells.{cells_of, state_widths}
use Rattle.script_core.specs.Reached.{course_from, here}
use Rattle.script_core.specs.Rooms.{made_for, state_in}
use Rattle.script_core.specs.Runs.{reach}
use Rattle.script_core.proofs.run.run_items.Given as goal

abbrev pub invariant-loop-item : goal.invariant-loop-item
invariant-loop-item l = record {
  run : reach (course_from l.dev l.sc l.items (here (state_in l.fn.room))) l.fn.words ≡ reach (course_from l.dev l.sc (drop l.item-index l.items) (here (state_in l.room))) l.left;
  cells : fit (state_widths (cells_of l.dev.circuit.lines)) l.room.device.words ≡ true;
  made : made_for l.room ≡ made_for l.fn.room;
}
