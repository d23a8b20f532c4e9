use Rattle.std.proofs.Common.{◌∙◌, ap, slice_get, subst}
use Rattle.knox_words.specs.Lists.{Words}
use Rattle.driver_machine.specs.Outcomes.{tests_met}
use Rattle.device_design.specs.Meaning.{head_args, design_of}
use Rattle.script_core.specs.declared.run.Left.{Left}
use Rattle.script_core.specs.Reached.{Idles}
use Rattle.script_core.specs.Runs.{reach_of}
use Rattle.script_core.proofs.Telling.{call-short, call-on}
use Rattle.script_core.proofs.room.Room.tests_of_call.Goals as goal

pub returns-in-Ended : goal.returns-in-Ended
returns-in-Ended c =
    let v = c.args.dev.now in
    let room = c.begin_idle.new.self in
    c.new.ensures
    ∙ call-short v c.args.sc.now c.args.op c.arg_widths_into.new.out.items c.args.words.now (reach_of c.in-Ended.field-0)
    (c.in_ok-arg_widths_into.ensures ∙ ap (λ hs. head_args (slice_get hs c.args.op)) c.ops.ensures)
    (subst (λ (l : Left). Idles v c.args.sc.now c.arg_widths_into.new.out.items c.args.words.now room.fields room.device.words room.args l) c.in-Ended.is c.in_ok-begin_idle.ensures.run)

pub returns-in_ok-tests-in-On : goal.returns-in_ok-tests-in-On
returns-in_ok-tests-in-On c =
    let v = c.args.dev.now in
    let room = c.begin_idle.new.self in
    let h = subst (λ (l : Left). Idles v c.args.sc.now c.arg_widths_into.new.out.items c.args.words.now room.fields room.device.words room.args l) c.in-On.is c.in_ok-begin_idle.ensures.run in
    c.in_ok-tests-in-On.ensures
    ∙ (ap (λ (args : Words). tests_met v.circuit.lines v.driver c.args.op args room.device.words) c.as_slice.ensures
    ∙ call-on v c.args.sc.now (c.moves_meet_the_tests.ensures (design_of v.circuit v.spec v.driver v.emulator) c.devices_have_drivers.ensures.design) c.args.op c.arg_widths_into.new.out.items c.args.words.now room.fields room.device.words room.args c.in-On.field-0.now
    (c.in_ok-arg_widths_into.ensures ∙ ap (λ hs. head_args (slice_get hs c.args.op)) c.ops.ensures) h.3)
