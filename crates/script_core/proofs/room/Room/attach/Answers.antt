use Rattle.std.proofs.Common.{◌∙◌, ap, subst}
use Rattle.emu_machine.specs.Emulator.{emulator_after_power}
use Rattle.script_core.specs.declared.run.Left.{Left}
use Rattle.script_core.specs.Reached.{Powers}
use Rattle.script_core.specs.Runs.{reach_of}
use Rattle.script_core.proofs.Walking.{attach-short, attach-on}
use Rattle.script_core.proofs.room.Room.attach.Goals as goal

pub returns-in-Ended-clause-run : goal.returns-in-Ended-clause-run
returns-in-Ended-clause-run c =
    let room = c.power_up.new.self in
    attach-short c.args.dev.now c.args.sc.now c.args.words.now (reach_of c.in-Ended.end)
    (subst (λ (l : Left). Powers c.args.dev.now c.args.sc.now c.args.words.now room.fields room.kept room.noise.words room.device.words l) c.in-Ended.is c.in_ok-end.ensures.run)

pub returns-clause-run : goal.returns-clause-run
returns-clause-run c =
    let v = c.args.dev.now in
    let room = c.power_up.new.self in
    let h = subst (λ (l : Left). Powers v c.args.sc.now c.args.words.now room.fields room.kept room.noise.words room.device.words l) c.in-On.is c.in_ok-end.ensures.run in (
      h.0,
      attach-on v c.args.sc.now c.args.words.now room.fields room.kept room.noise.words room.device.words _ c.in-On.left.now h.2 h.1
          (c.in_ok-power.ensures.emu ∙ ap (emulator_after_power v.emulator) c.as_slice.ensures),
    )
