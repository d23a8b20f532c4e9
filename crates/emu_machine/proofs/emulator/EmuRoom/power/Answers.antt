use Rattle.std.proofs.Common.{◌∙◌}
use Rattle.emu_machine.proofs.TickLemmas.{done-after_power}
use Rattle.emu_machine.proofs.emulator.EmuRoom.power.Goals as goal

pub returns-clause-emu : goal.returns-clause-emu
returns-clause-emu c =
    c.swap.ensures.x_after
    ∙ done-after_power c.args.p.now c.args.noise.now c.parts-parts.ensures c.as_slice-2.ensures c.as_slice.ensures c.new.ensures c.clear.ensures c.in_ok-seen.ensures c.in_ok-exec_in.ensures.done
