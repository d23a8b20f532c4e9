use Rattle.std.proofs.Common.{◌∙◌, ap}
use Rattle.emu_machine.proofs.TickLemmas.{tick-seen}
use Rattle.emu_machine.proofs.emulator.EmuRoom.tick.Goals as goal

pub returns-clause-emu : goal.returns-clause-emu
returns-clause-emu c =
    c.swap.ensures.x_after ∙ ap (λ sp. sp.own) c.in_ok-answered.ensures.spaces ∙ ap (λ st. st.0.own)
    (tick-seen c.args.s.now c.args.p.now _ c.args.emu.now c.args.ins.now c.args.fields.now c.parts.ensures c.as_slice-3.ensures c.as_slice-2.ensures
    c.in_ok-spaces.ensures.seen (c.in_ok-spaces.ensures.kept ∙ c.in_ok-copy_from.ensures.ok ∙ c.as_slice.ensures))

pub returns-clause-fields : goal.returns-clause-fields
returns-clause-fields c =
    c.swap-2.ensures.x_after ∙ c.in_ok-answered.ensures.fields ∙ ap (λ st. st.1.fields)
    (tick-seen c.args.s.now c.args.p.now _ c.args.emu.now c.args.ins.now c.args.fields.now c.parts.ensures c.as_slice-3.ensures c.as_slice-2.ensures
    c.in_ok-spaces.ensures.seen (c.in_ok-spaces.ensures.kept ∙ c.in_ok-copy_from.ensures.ok ∙ c.as_slice.ensures))
