use Rattle.std.proofs.Common.{◌∙◌, subst}
use Rattle.script_core.specs.declared.run.Left.{Left}
use Rattle.script_core.specs.Reached.{Idles}
use Rattle.script_core.specs.Rooms.{state_in}
use Rattle.script_core.specs.Runs.{reach_of}
use Rattle.script_core.proofs.Projections.{is_refined-are}
use Rattle.script_core.proofs.Hosting.{at-check, idle-short, idle-on, rest_tail, rest-is}
use Rattle.script_core.proofs.room.Room.rest.Goals as goal

pub returns-in-Ended-clause-run : goal.returns-in-Ended-clause-run
returns-in-Ended-clause-run c =
    let room = c.begin_idle.new.self in
    idle-short c.args.dev.now c.args.sc.now _ _ _ (rest_tail c.args.dev.now c.args.sc.now) c.args.words.now (reach_of c.in-Ended.end) (rest-is c.args.dev.now c.args.sc.now) c.clear.ensures.items
    (subst (λ (l : Left). Idles c.args.dev.now c.args.sc.now c.clear.new.self.items c.args.words.now room.fields room.device.words room.args l) c.in-Ended.is c.in_ok-end.ensures.run)

pub returns-clause-run : goal.returns-clause-run
returns-clause-run c =
    let room = c.begin_idle.new.self in
    let h = (subst (λ (l : Left). Idles c.args.dev.now c.args.sc.now c.clear.new.self.items c.args.words.now room.fields room.device.words room.args l) c.in-On.is c.in_ok-end.ensures.run) in
    idle-on c.args.dev.now c.args.sc.now _ _ _ (rest_tail c.args.dev.now c.args.sc.now) c.args.words.now room.fields room.device.words room.args c.in-On.left.now _ (rest-is c.args.dev.now c.args.sc.now) c.clear.ensures.items h.3
    (at-check _ _ _ _ _ c.in-On.left.now c.checked.ensures (c.in_ok-refined.ensures.value ∙ is_refined-are c.args.dev.now c.args.sc.now (state_in room)) c.hint_of_kind.ensures)
