use Rattle.std.proofs.Common.{◌∙◌, ap}
use Rattle.knox_words.specs.Lists.{Words, fit}
use Rattle.knox_circuit.specs.Cells.{cells_of, state_widths}
use Rattle.emu_machine.specs.Emulator.{emulator_after_tick, fields_after_tick}
use Rattle.script_core.specs.Rooms.{state_in}
use Rattle.script_core.proofs.Projections.{both-ticked}
use Rattle.script_core.proofs.room.Room.tick_both.Goals as goal

pub returns-clause-state : goal.returns-clause-state
returns-clause-state c =
    let v = c.args.dev.now in
    let st = state_in c.args.self.now in
    let ins = c.args.self.now.inputs.words in
    both-ticked v st ins _ _ _ (c.dialogue_is_the_tick.ensures.dialogue _ _ _ _ st.fields st.emu ins)
    (c.in_ok-tick.ensures.fields ∙ ap (λ (z : Words). fields_after_tick v.spec v.emulator st.fields st.emu z) c.as_slice.ensures)
    c.tick.ensures.state
    (c.in_ok-tick.ensures.emu ∙ ap (λ (z : Words). emulator_after_tick v.spec v.emulator st.fields st.emu z) c.as_slice.ensures)

pub returns-clause-cells : goal.returns-clause-cells
returns-clause-cells c =
    ap (fit (state_widths (cells_of c.args.dev.now.circuit.lines))) c.tick.ensures.state
    ∙ c.circuits_keep_widths.ensures.tick _ _ c.requires.cells c.requires.inputs
