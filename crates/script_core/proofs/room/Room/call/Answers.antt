use Rattle.std.proofs.Common.{◌≡◌, ◌∙◌, ap, slice_get, subst, true}
use Rattle.knox_words.specs.Lists.{fit}
use Rattle.device_design.specs.Meaning.{head_args}
use Rattle.script_core.specs.declared.run.Left.{Left}
use Rattle.script_core.specs.Reached.{Idles}
use Rattle.script_core.specs.Runs.{reach_of}
use Rattle.script_core.proofs.Hosting.{idle-short, idle-on, call_tail, call-is, call-ends}
use Rattle.script_core.proofs.room.Room.call.Goals as goal

pub returns-in-Ended-clause-run : goal.returns-in-Ended-clause-run
returns-in-Ended-clause-run c =
    let v = c.args.dev.now in
    let room = c.begin_idle.new.self in
    idle-short v c.args.sc.now _ _ _ (call_tail v c.args.sc.now c.args.op) c.args.words.now (reach_of c.in-Ended.end) (call-is v c.args.sc.now c.args.op)
    (c.in_ok-arg_widths_into.ensures ∙ ap (λ hs. head_args (slice_get hs c.args.op)) c.ops.ensures)
    (subst (λ (l : Left). Idles v c.args.sc.now c.arg_widths_into.new.out.items c.args.words.now room.fields room.device.words room.args l) c.in-Ended.is c.in_ok-end.ensures.run)

pub conclude-requires : goal.conclude-requires
conclude-requires c =
    let v = c.args.dev.now in
    let room = c.begin_idle.new.self in
    let h = subst (λ (l : Left). Idles v c.args.sc.now c.arg_widths_into.new.out.items c.args.words.now room.fields room.device.words room.args l) c.in-On.is c.in_ok-end.ensures.run in
    h.0

pub returns-clause-run : goal.returns-clause-run
returns-clause-run c =
    let v = c.args.dev.now in
    let room = c.begin_idle.new.self in
    let w = c.in_ok-arg_widths_into.ensures ∙ ap (λ hs. head_args (slice_get hs c.args.op)) c.ops.ensures in
    let h = subst (λ (l : Left). Idles v c.args.sc.now c.arg_widths_into.new.out.items c.args.words.now room.fields room.device.words room.args l) c.in-On.is c.in_ok-end.ensures.run in
    idle-on v c.args.sc.now _ _ _ (call_tail v c.args.sc.now c.args.op) c.args.words.now room.fields room.device.words room.args c.in-On.left.now _ (call-is v c.args.sc.now c.args.op) w h.3
    (call-ends v c.args.sc.now c.devices_are_designs.ensures c.rom_words_have_widths.ensures.cells c.args.op room.fields room.device.words room.args c.in-On.left.now c.requires.op
    (subst (λ ws. fit ws room.args ≡ true) w h.2) h.0 h.1 _ _ _ c.checked.ensures c.in_ok-concluded.ensures.value c.hint_of_kind.ensures)
