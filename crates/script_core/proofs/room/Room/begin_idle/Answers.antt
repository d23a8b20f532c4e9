use Rattle.std.proofs.Common.{◌∙◌, ap, sym, subst, false}
use Rattle.knox_words.specs.Lists.{fit}
use Rattle.knox_theory.specs.Script.{State}
use Rattle.knox_circuit.specs.Cells.{cells_of, state_widths}
use Rattle.knox_circuit.specs.Rom.{rom_words, agree}
use Rattle.device_design.specs.Roms.{known_fit}
use Rattle.script_core.specs.declared.run.Left.{Left}
use Rattle.script_core.specs.declared.run.Left.TheVariants.{On, Ended}
use Rattle.script_core.specs.Reached.{TakesThree}
use Rattle.script_core.specs.Rooms.{RoomSizes}
use Rattle.script_core.specs.Runs.{reach_of}
use Rattle.script_core.proofs.Reaching.{three-of}
use Rattle.script_core.proofs.Hosting.{idles-short, idles-then, idles-on}
use Rattle.script_core.proofs.room.Room.begin_idle.Goals as goal

pub take_three-requires : goal.take_three-requires
take_three-requires c = (λ i. known_fit (c.roms.ensures i) (c.state_widths.ensures i)) ∙ c.rom_words_have_widths.ensures.cells

pub returns-in-Ended-clause-run : goal.returns-in-Ended-clause-run
returns-in-Ended-clause-run c =
    idles-short c.args.dev.now c.args.sc.now c.args.self.now.arg_widths.items c.args.words.now (reach_of c.in-Ended.end)
    (three-of c.as_slice.result.now c.roms.result.now c.state_widths.result.now c.as_slice-2.result.now _ _ _ _ c.args.words.now c.take_three.new.into_first c.take_three.new.into_second c.take_three.new.into_third (Ended c.in-Ended.end)
    (c.as_slice.ensures.value ∙ ap (λ (s : RoomSizes). s.fields) c.requires)
    c.roms.ensures
    c.state_widths.ensures
    c.as_slice-2.ensures.value
    (subst (λ (l : Left). TakesThree c.as_slice.result.now c.roms.result.now c.state_widths.result.now c.as_slice-2.result.now c.args.words.now c.take_three.new.into_first c.take_three.new.into_second c.take_three.new.into_third l) c.in-Ended.is c.in_ok-end.ensures))

pub returns-then-branch-clause-run : goal.returns-then-branch-clause-run
returns-then-branch-clause-run c =
    let v = c.args.dev.now in
    let idle = c.in_ok-is_idle.ensures in
    let t =
    three-of c.as_slice.result.now c.roms.result.now c.state_widths.result.now c.as_slice-2.result.now _ _ _ _ c.args.words.now c.take_three.new.into_first c.take_three.new.into_second c.take_three.new.into_third (On c.in-On.left)
    (c.as_slice.ensures.value ∙ ap (λ (s : RoomSizes). s.fields) c.requires)
    c.roms.ensures
    c.state_widths.ensures
    c.as_slice-2.ensures.value
    (subst (λ (l : Left). TakesThree c.as_slice.result.now c.roms.result.now c.state_widths.result.now c.as_slice-2.result.now c.args.words.now c.take_three.new.into_first c.take_three.new.into_second c.take_three.new.into_third l) c.in-On.is c.in_ok-end.ensures) in (
      ap (λ (st : State). fit (state_widths (cells_of v.circuit.lines)) st.cells) idle.state ∙ t.1,
      ap (λ (st : State). agree (rom_words v.circuit.lines) st.cells) idle.state ∙ t.2,
      ap (fit c.args.self.now.arg_widths.items) idle.args ∙ t.3,
      idles-on v c.args.sc.now c.args.self.now.arg_widths.items c.args.words.now c.take_three.new.into_first c.take_three.new.into_second c.take_three.new.into_third c.in-On.left.now _ _ _ t
          (sym idle.value ∙ c.if-branch.true)
          (ap (λ (st : State). st.fields) idle.state)
          (ap (λ (st : State). st.cells) idle.state)
          idle.args,
    )

pub returns-else-branch-clause-run : goal.returns-else-branch-clause-run
returns-else-branch-clause-run c =
    idles-then c.args.dev.now c.args.sc.now c.args.self.now.arg_widths.items c.args.words.now c.take_three.new.into_first c.take_three.new.into_second c.take_three.new.into_third c.in-On.left.now
    (three-of c.as_slice.result.now c.roms.result.now c.state_widths.result.now c.as_slice-2.result.now _ _ _ _ c.args.words.now c.take_three.new.into_first c.take_three.new.into_second c.take_three.new.into_third (On c.in-On.left)
    (c.as_slice.ensures.value ∙ ap (λ (s : RoomSizes). s.fields) c.requires)
    c.roms.ensures
    c.state_widths.ensures
    c.as_slice-2.ensures.value
    (subst (λ (l : Left). TakesThree c.as_slice.result.now c.roms.result.now c.state_widths.result.now c.as_slice-2.result.now c.args.words.now c.take_three.new.into_first c.take_three.new.into_second c.take_three.new.into_third l) c.in-On.is c.in_ok-end.ensures))
    false
    (sym c.in_ok-is_idle.ensures.value ∙ c.if-branch.false)
