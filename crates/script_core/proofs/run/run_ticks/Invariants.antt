use Rattle.std.proofs.Common.{◌≡◌, List, true}
use Rattle.knox_words.specs.Lists.{fit}
use Rattle.knox_circuit.specs.Cells.{cells_of, state_widths}
use Rattle.script_core.specs.declared.parts.Item.{Item}
use Rattle.script_core.specs.Reached.{ticks_from}
use Rattle.script_core.specs.Rooms.{made_for, state_in}
use Rattle.script_core.specs.Runs.{reach}
use Rattle.script_core.proofs.run.run_ticks.Given as goal

abbrev pub invariant-loop-more_ticks : goal.invariant-loop-more_ticks
invariant-loop-more_ticks l = record {
  run : (items : List Item) → reach (ticks_from l.dev l.sc l.hint.0 l.count items (state_in l.fn.room)) l.fn.words ≡ reach (ticks_from l.dev l.sc l.hint.0 l.more_ticks items (state_in l.room)) l.left;
  cells : fit (state_widths (cells_of l.dev.circuit.lines)) l.room.device.words ≡ true;
  made : made_for l.room ≡ made_for l.fn.room;
}

abbrev pub decreases-loop-more_ticks : goal.decreases-loop-more_ticks
decreases-loop-more_ticks l = l.more_ticks
