use Rattle.std.proofs.Common.{◌∙◌, ap, sym, subst}
use Rattle.knox_words.specs.Lists.{fit}
use Rattle.knox_theory.specs.Script.{State}
use Rattle.knox_theory.specs.WireSegments.{ticked, is_refined}
use Rattle.knox_circuit.specs.Cells.{cells_of, state_widths}
use Rattle.script_core.specs.declared.run.Left.{Left}
use Rattle.script_core.specs.Reached.{design, script, Takes}
use Rattle.script_core.specs.Rooms.{state_in}
use Rattle.script_core.specs.Runs.{reach_of}
use Rattle.script_core.proofs.Walking.{tick-short, tick-differs, tick-unrefined, tick-on}
use Rattle.script_core.proofs.room.Room.tick.Goals as goal

pub returns-in-Ended-clause-run : goal.returns-in-Ended-clause-run
returns-in-Ended-clause-run c n items =
    tick-short c.args.dev.now c.args.sc.now c.args.hint.0 n items (state_in c.args.self.now) c.input_widths.result.now c.args.words.now (reach_of c.in-Ended.end)
    c.input_widths.ensures
    (subst (λ (l : Left). Takes c.input_widths.result.now c.args.words.now c.take_words.new.into l) c.in-Ended.is c.in_ok-end.ensures)

pub returns-then-not-branch-clause-run : goal.returns-then-not-branch-clause-run
returns-then-not-branch-clause-run c n items =
    let t = subst (λ (l : Left). Takes c.input_widths.result.now c.args.words.now c.take_words.new.into l) c.in-On.is c.in_ok-end.ensures in
    tick-differs c.args.dev.now c.args.sc.now c.args.hint.0 n items (state_in c.args.self.now) c.input_widths.result.now c.args.words.now c.take_words.new.into c.in-On.left.now
    c.input_widths.ensures
    t
    (sym c.in_ok-shows_the_same.ensures.value ∙ c.if-not-branch.true)

pub returns-else-branch-clause-run : goal.returns-else-branch-clause-run
returns-else-branch-clause-run c n items =
    let v = c.args.dev.now in
    let t = subst (λ (l : Left). Takes c.input_widths.result.now c.args.words.now c.take_words.new.into l) c.in-On.is c.in_ok-end.ensures in
    let same = c.in_ok-shows_the_same.ensures in
    tick-unrefined v c.args.sc.now c.args.hint.0 n items (state_in c.args.self.now) c.input_widths.result.now c.args.words.now c.take_words.new.into c.in-On.left.now
    c.input_widths.ensures
    t
    (sym same.value ∙ c.if-not-branch.false)
    (state_in c.tick_both.new.self)
    (c.in_ok-tick_both.ensures.state ∙ (λ i. ticked (design v) (same.state i) (same.inputs i)))
    (sym c.if-branch.false ∙ c.in_ok-stays_refined.ensures.value)

pub returns-then-branch-clause-run : goal.returns-then-branch-clause-run
returns-then-branch-clause-run c n items =
    let v = c.args.dev.now in
    let t = subst (λ (l : Left). Takes c.input_widths.result.now c.args.words.now c.take_words.new.into l) c.in-On.is c.in_ok-end.ensures in
    let same = c.in_ok-shows_the_same.ensures in
    let refined = c.in_ok-stays_refined.ensures in (
      ap (λ (st : State). fit (state_widths (cells_of v.circuit.lines)) st.cells) refined.state ∙ c.in_ok-tick_both.ensures.cells,
      tick-on v c.args.sc.now c.args.hint.0 n items (state_in c.args.self.now) c.input_widths.result.now c.args.words.now c.take_words.new.into c.in-On.left.now
          c.input_widths.ensures
          t
          (sym same.value ∙ c.if-not-branch.false)
          (state_in c.stays_refined.new.self)
          (refined.state ∙ (c.in_ok-tick_both.ensures.state ∙ (λ i. ticked (design v) (same.state i) (same.inputs i))))
          (sym c.if-branch.true ∙ (refined.value ∙ ap (is_refined (design v) (script v c.args.sc.now)) (sym refined.state))),
    )
