use Rattle.std.proofs.Common.{◌∙◌, ap, subst, []}
use Rattle.knox_words.specs.Lists.{Words}
use Rattle.knox_circuit.specs.Circuit.{state_after_tick}
use Rattle.script_core.specs.declared.run.Left.{Left}
use Rattle.script_core.specs.Hints.{seen, holds}
use Rattle.script_core.specs.Reached.{Idles}
use Rattle.script_core.specs.Runs.{reach_of}
use Rattle.script_core.proofs.Hosting.{at-check, idle-short, idle-on, wait_tail, wait-is}
use Rattle.script_core.proofs.room.Room.wait.Goals as goal

pub returns-in-Ended-clause-run : goal.returns-in-Ended-clause-run
returns-in-Ended-clause-run c =
    let room = c.begin_idle.new.self in
    idle-short c.args.dev.now c.args.sc.now _ _ _ (wait_tail c.args.dev.now c.args.sc.now) c.args.words.now (reach_of c.in-Ended.end) (wait-is c.args.dev.now c.args.sc.now) c.clear.ensures.items
    (subst (λ (l : Left). Idles c.args.dev.now c.args.sc.now c.clear.new.self.items c.args.words.now room.fields room.device.words room.args l) c.in-Ended.is c.in_ok-end.ensures.run)

pub tick-requires-clause-state : goal.tick-requires-clause-state
tick-requires-clause-state c =
    let room = c.begin_idle.new.self in
    let h = (subst (λ (l : Left). Idles c.args.dev.now c.args.sc.now c.clear.new.self.items c.args.words.now room.fields room.device.words room.args l) c.in-On.is c.in_ok-end.ensures.run) in
    c.circuits_have_widths.ensures.count room.device.words h.0

pub returns-clause-run : goal.returns-clause-run
returns-clause-run c =
    let v = c.args.dev.now in
    let room = c.begin_idle.new.self in
    let h = (subst (λ (l : Left). Idles c.args.dev.now c.args.sc.now c.clear.new.self.items c.args.words.now room.fields room.device.words room.args l) c.in-On.is c.in_ok-end.ensures.run) in
    idle-on v c.args.sc.now _ _ _ (wait_tail v c.args.sc.now) c.args.words.now room.fields room.device.words room.args c.in-On.left.now _ (wait-is v c.args.sc.now) c.clear.ensures.items h.3
    (at-check _ _ _ _ _ c.in-On.left.now c.checked.ensures
    (c.in_ok-idle.ensures.value
    ∙ ap (λ (z : Words). holds v.spec.funs c.args.sc.now.idle (seen room.fields z [])) (c.tick.ensures.state ∙ ap (λ (z : Words). state_after_tick v.circuit.lines room.device.words z) (c.in_ok-copy_from.ensures.ok ∙ c.idle.ensures)))
    c.hint_of_kind.ensures)
