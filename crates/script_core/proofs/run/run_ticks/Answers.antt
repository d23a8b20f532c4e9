use Rattle.std.proofs.Common.{◌∙◌, ◌-◌, subst, suc, List, []}
use Rattle.script_core.specs.declared.parts.Item.{Item}
use Rattle.script_core.specs.declared.run.Left.{Left}
use Rattle.script_core.specs.Reached.{ticks_from, Leads}
use Rattle.script_core.specs.Rooms.{state_in}
use Rattle.script_core.proofs.Walking.{ticks-more, ticks-none}
use Rattle.script_core.proofs.run.run_ticks.Goals as goal

pub returns-in-Ended-clause-run : goal.returns-in-Ended-clause-run
returns-in-Ended-clause-run c items =
    let v = c.args.dev.now in
    let p = c.args.sc.now in
    let h = c.args.hint.0 in
    let n = c.loop-more_ticks.more_ticks - 1 in
    let st = state_in c.loop-more_ticks.room in
    let left = c.loop-more_ticks.left.now in
    c.loop-more_ticks.invariant.run items
    ∙ (ticks-more v p h c.loop-more_ticks.more_ticks items st left c.loop-more_ticks-test.true
    ∙ subst (λ (l : Left). Leads v (ticks_from v p h (suc n) items st) left (state_in c.tick.new.self) (ticks_from v p h n items) l) c.in-Ended.is (c.in_ok-end.ensures.run n items))

pub loop-more_ticks-preserved : goal.loop-more_ticks-preserved
loop-more_ticks-preserved c =
    let v = c.args.dev.now in
    let p = c.args.sc.now in
    let h = c.args.hint.0 in
    let n = c.loop-more_ticks.more_ticks - 1 in
    let st = state_in c.loop-more_ticks.room in
    let left = c.loop-more_ticks.left.now in
    let led = λ (items : List Item). subst (λ (l : Left). Leads v (ticks_from v p h (suc n) items st) left (state_in c.tick.new.self) (ticks_from v p h n items) l) c.in-On.is (c.in_ok-end.ensures.run n items) in
    record {
      run = λ items. c.loop-more_ticks.invariant.run items ∙ (ticks-more v p h c.loop-more_ticks.more_ticks items st left c.loop-more_ticks-test.true ∙ (led items).1);
      cells = (led []).0;
      made = c.in_ok-end.ensures.made ∙ c.loop-more_ticks.invariant.made;
    }

pub returns-clause-run : goal.returns-clause-run
returns-clause-run c items = (
  c.loop-more_ticks.invariant.cells,
  c.loop-more_ticks.invariant.run items ∙ ticks-none c.args.dev.now c.args.sc.now c.args.hint.0 c.loop-more_ticks.more_ticks items (state_in c.loop-more_ticks.room) c.loop-more_ticks.left.now c.loop-more_ticks-test.false,
)
