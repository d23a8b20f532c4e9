use Rattle.std.proofs.Common.{subst}
use Rattle.script_core.specs.declared.run.Left.{Left}
use Rattle.script_core.specs.Reached.{Powers}
use Rattle.script_core.specs.Runs.{reach_of}
use Rattle.script_core.proofs.Hosting.{boot-short, boot-on}
use Rattle.script_core.proofs.room.Room.boot_host.Goals as goal

pub returns-in-Ended-clause-run : goal.returns-in-Ended-clause-run
returns-in-Ended-clause-run c =
    let room = c.power_up.new.self in
    boot-short c.args.dev.now c.args.sc.now c.args.words.now (reach_of c.in-Ended.end)
    (subst (λ (l : Left). Powers c.args.dev.now c.args.sc.now c.args.words.now room.fields room.kept room.noise.words room.device.words l) c.in-Ended.is c.in_ok-end.ensures.run)

pub returns-clause-run : goal.returns-clause-run
returns-clause-run c =
    let v = c.args.dev.now in
    let room = c.power_up.new.self in
    let h = subst (λ (l : Left). Powers v c.args.sc.now c.args.words.now room.fields room.kept room.noise.words room.device.words l) c.in-On.is c.in_ok-end.ensures.run in
    boot-on v c.args.sc.now c.args.words.now room.fields room.kept room.noise.words room.device.words c.in-On.left.now _ _ _ h.2 h.1 c.checked.ensures c.in_ok-idle.ensures.value c.hint_of_kind.ensures
