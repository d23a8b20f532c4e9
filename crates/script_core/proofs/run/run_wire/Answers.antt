use Rattle.std.proofs.Common.{◌∙◌, ap, sym, subst, List}
use Rattle.script_core.specs.declared.parts.Item.{Item}
use Rattle.script_core.specs.declared.run.Left.{Left}
use Rattle.script_core.specs.Hints.{wire_items}
use Rattle.script_core.specs.Reached.{course_from, here, wire_run, Leads}
use Rattle.script_core.specs.Rooms.{state_in}
use Rattle.script_core.specs.Runs.{reach}
use Rattle.script_core.proofs.run.run_wire.Goals as goal

pub returns-in-Ended-clause-run : goal.returns-in-Ended-clause-run
returns-in-Ended-clause-run c =
    let v = c.args.dev.now in
    let p = c.args.sc.now in
    sym (subst (λ (l : Left). Leads v (wire_run v p) c.args.words.now (state_in c.attach.new.self) (λ st. course_from v p (wire_items p) (here st)) l) c.in-Ended.is c.in_ok-end.ensures.run)

pub run_items-requires-clause-cells : goal.run_items-requires-clause-cells
run_items-requires-clause-cells c =
    let v = c.args.dev.now in
    let p = c.args.sc.now in
    let led = subst (λ (l : Left). Leads v (wire_run v p) c.args.words.now (state_in c.attach.new.self) (λ st. course_from v p (wire_items p) (here st)) l) c.in-On.is c.in_ok-end.ensures.run in
    led.0

pub returns-clause-run : goal.returns-clause-run
returns-clause-run c =
    let v = c.args.dev.now in
    let p = c.args.sc.now in
    let led = subst (λ (l : Left). Leads v (wire_run v p) c.args.words.now (state_in c.attach.new.self) (λ st. course_from v p (wire_items p) (here st)) l) c.in-On.is c.in_ok-end.ensures.run in
    c.in_ok-end-2.ensures.run ∙ (ap (λ (is : List Item). reach (course_from v p is (here (state_in c.attach.new.self))) c.in-On.left.now) c.wire.ensures ∙ sym led.1)
