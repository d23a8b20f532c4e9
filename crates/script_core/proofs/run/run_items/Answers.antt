use Rattle.std.proofs.Common.{◌∙◌, ◌+◌, ◌∷◌, ap, sym, subst, drop, List}
use Rattle.std.proofs.lemmas.List.{drop_more}
use Rattle.script_core.specs.declared.parts.Item.{Item}
use Rattle.script_core.specs.declared.run.Left.{Left}
use Rattle.script_core.specs.Reached.{course_from, ticks_from, here, Leads}
use Rattle.script_core.specs.Rooms.{state_in}
use Rattle.script_core.specs.Runs.{reach}
use Rattle.script_core.proofs.Walking.{step-first}
use Rattle.script_core.proofs.run.run_items.Goals as goal

pub returns-in-Ended-clause-run : goal.returns-in-Ended-clause-run
returns-in-Ended-clause-run c =
    let v = c.args.dev.now in
    let p = c.args.sc.now in
    let k = c.loop-item.item-index in
    let i = c.item-item.result in
    let rest = drop (k + 1) c.args.items.now in
    let n = c.in-Step.count in
    let st = state_in c.loop-item.room in
    let left = c.loop-item.left.now in
    sym (c.loop-item.invariant.run
    ∙ (ap (λ (is : List Item). reach (course_from v p is (here st)) left) (drop_more c.args.items.now k i c.loop-item-test.true ∙ ap (λ (x : Item). x ∷ rest) (sym c.item-item.is))
    ∙ (step-first v p i rest st left n c.in-Step.is
    ∙ subst (λ (l : Left). Leads v (ticks_from v p i.hint.0 n rest st) left (state_in c.run_ticks.new.room) (λ s. course_from v p rest (here s)) l) c.in-Ended.is (c.in_ok-end-in-Step.ensures.run rest))))

pub loop-item-preserved : goal.loop-item-preserved
loop-item-preserved c =
    let v = c.args.dev.now in
    let p = c.args.sc.now in
    let k = c.loop-item.item-index in
    let i = c.item-item.result in
    let rest = drop (k + 1) c.args.items.now in
    let n = c.in-Step.count in
    let st = state_in c.loop-item.room in
    let left = c.loop-item.left.now in
    let led = subst (λ (l : Left). Leads v (ticks_from v p i.hint.0 n rest st) left (state_in c.run_ticks.new.room) (λ s. course_from v p rest (here s)) l) c.in-On.is (c.in_ok-end-in-Step.ensures.run rest) in
    record {
      run =
          c.loop-item.invariant.run
          ∙ (ap (λ (is : List Item). reach (course_from v p is (here st)) left) (drop_more c.args.items.now k i c.loop-item-test.true ∙ ap (λ (x : Item). x ∷ rest) (sym c.item-item.is))
          ∙ (step-first v p i rest st left n c.in-Step.is ∙ led.1));
      cells = led.0;
      made = c.in_ok-end-in-Step.ensures.room ∙ c.loop-item.invariant.made;
    }
