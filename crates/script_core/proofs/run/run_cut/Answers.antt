use Rattle.std.proofs.Common.{◌∙◌, ap, sym, subst, List}
use Rattle.script_core.specs.declared.parts.Item.{Item}
use Rattle.script_core.specs.declared.run.Left.{Left}
use Rattle.script_core.specs.Hints.{wire_items, behind_cut}
use Rattle.script_core.specs.Reached.{course_from, here, cut_run, behind_course, Leads}
use Rattle.script_core.specs.Rooms.{state_in}
use Rattle.script_core.specs.Runs.{reach}
use Rattle.script_core.proofs.run.run_cut.Goals as goal

pub returns-in_default-clause-run : goal.returns-in_default-clause-run
returns-in_default-clause-run c = sym (ap (λ o. reach (behind_course c.args.dev.now c.args.sc.now o) c.args.words.now) c.in_default.ensures)

pub returns-in-Ended-clause-run : goal.returns-in-Ended-clause-run
returns-in-Ended-clause-run c =
    let v = c.args.dev.now in
    let p = c.args.sc.now in
    let e = c.in-Some.condition.now in
    let items = behind_cut (wire_items p) in
    sym (ap (λ o. reach (behind_course v p o) c.args.words.now) c.in-Some.ensures
    ∙ subst (λ (l : Left). Leads v (cut_run v p e items) c.args.words.now (state_in c.enter.new.self) (λ st. course_from v p items (here st)) l) c.in-Ended.is (c.in_ok-end.ensures.run p items))

pub run_items-requires-clause-cells : goal.run_items-requires-clause-cells
run_items-requires-clause-cells c =
    let v = c.args.dev.now in
    let p = c.args.sc.now in
    let e = c.in-Some.condition.now in
    let items = behind_cut (wire_items p) in
    let led = subst (λ (l : Left). Leads v (cut_run v p e items) c.args.words.now (state_in c.enter.new.self) (λ st. course_from v p items (here st)) l) c.in-On.is (c.in_ok-end.ensures.run p items) in
    led.0

pub returns-clause-run : goal.returns-clause-run
returns-clause-run c =
    let v = c.args.dev.now in
    let p = c.args.sc.now in
    let e = c.in-Some.condition.now in
    let items = behind_cut (wire_items p) in
    let led = subst (λ (l : Left). Leads v (cut_run v p e items) c.args.words.now (state_in c.enter.new.self) (λ st. course_from v p items (here st)) l) c.in-On.is (c.in_ok-end.ensures.run p items) in
    c.in_ok-end-2.ensures.run
    ∙ (ap (λ (is : List Item). reach (course_from v p is (here (state_in c.enter.new.self))) c.in-On.left.now) c.behind_cut.ensures
    ∙ sym (ap (λ o. reach (behind_course v p o) c.args.words.now) c.in-Some.ensures ∙ led.1))
