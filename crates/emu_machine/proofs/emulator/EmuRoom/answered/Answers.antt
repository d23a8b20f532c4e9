use Rattle.std.proofs.Common.{◌∙◌, ap}
use Rattle.emu_machine.proofs.TickLemmas.{done-tick}
use Rattle.emu_machine.proofs.emulator.EmuRoom.answered.Goals as goal

pub returns-clause-spaces : goal.returns-clause-spaces
returns-clause-spaces c =
    ap (λ st. st.0)
    (done-tick c.args.s.now c.args.p.now c.args.spaces.now _ c.args.self.now.fields c.parts-parts.ensures c.as_slice-2.ensures c.as_slice.ensures
    c.replace-words.ensures.value c.clear.ensures c.in_ok-exec_in.ensures.done)

pub returns-clause-fields : goal.returns-clause-fields
returns-clause-fields c =
    c.into_fields.ensures ∙ ap (λ st. st.1.fields)
    (done-tick c.args.s.now c.args.p.now c.args.spaces.now _ c.args.self.now.fields c.parts-parts.ensures c.as_slice-2.ensures c.as_slice.ensures
    c.replace-words.ensures.value c.clear.ensures c.in_ok-exec_in.ensures.done)
