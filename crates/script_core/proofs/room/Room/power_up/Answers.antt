use Rattle.std.proofs.Common.{◌∙◌, ap, sym, subst, false}
use Rattle.knox_words.specs.Lists.{fit}
use Rattle.knox_theory.specs.Script.{State}
use Rattle.knox_words.specs.Lists.{merge, zeros_or}
use Rattle.knox_circuit.specs.Cells.{cells_of, state_widths, noise_widths, keep_mask}
use Rattle.knox_circuit.specs.Circuit.{state_after_power}
use Rattle.device_design.specs.Roms.{known_fit}
use Rattle.script_core.specs.declared.run.Left.{Left}
use Rattle.script_core.specs.declared.run.Left.TheVariants.{On, Ended}
use Rattle.script_core.specs.Reached.{TakesThree}
use Rattle.script_core.specs.Rooms.{RoomSizes}
use Rattle.script_core.specs.Runs.{reach_of}
use Rattle.script_core.proofs.Reaching.{three-of}
use Rattle.script_core.proofs.Walking.{powers-short, powers-then, powers-on}
use Rattle.script_core.proofs.room.Room.power_up.Goals as goal

pub take_three-requires : goal.take_three-requires
take_three-requires c =
    (λ i. known_fit ((c.as_slice-2.ensures.value ∙ ap (λ (s : RoomSizes). s.persistent_roms) c.requires) i) ((c.as_slice-3.ensures.value ∙ ap (λ (s : RoomSizes). s.persistent) c.requires) i))
    ∙ c.rom_words_have_widths.ensures.kept c.args.dev.now.driver.keep

pub returns-in-Ended-clause-run : goal.returns-in-Ended-clause-run
returns-in-Ended-clause-run c =
    powers-short c.args.dev.now c.args.sc.now c.args.words.now (reach_of c.in-Ended.end)
    (three-of c.as_slice.result.now c.as_slice-2.result.now c.as_slice-3.result.now c.as_slice-4.result.now _ _ _ _ c.args.words.now c.take_three.new.into_first c.take_three.new.into_second c.take_three.new.into_third (Ended c.in-Ended.end)
    (c.as_slice.ensures.value ∙ ap (λ (s : RoomSizes). s.fields) c.requires)
    (c.as_slice-2.ensures.value ∙ ap (λ (s : RoomSizes). s.persistent_roms) c.requires)
    (c.as_slice-3.ensures.value ∙ ap (λ (s : RoomSizes). s.persistent) c.requires)
    (c.as_slice-4.ensures.value ∙ ap (λ (s : RoomSizes). s.noise) c.requires)
    (subst (λ (l : Left). TakesThree c.as_slice.result.now c.as_slice-2.result.now c.as_slice-3.result.now c.as_slice-4.result.now c.args.words.now c.take_three.new.into_first c.take_three.new.into_second c.take_three.new.into_third l) c.in-Ended.is c.in_ok-end.ensures))

pub returns-then-not-branch-clause-run : goal.returns-then-not-branch-clause-run
returns-then-not-branch-clause-run c =
    powers-then c.args.dev.now c.args.sc.now c.args.words.now c.take_three.new.into_first c.take_three.new.into_second c.take_three.new.into_third c.in-On.left.now
    (three-of c.as_slice.result.now c.as_slice-2.result.now c.as_slice-3.result.now c.as_slice-4.result.now _ _ _ _ c.args.words.now c.take_three.new.into_first c.take_three.new.into_second c.take_three.new.into_third (On c.in-On.left)
    (c.as_slice.ensures.value ∙ ap (λ (s : RoomSizes). s.fields) c.requires)
    (c.as_slice-2.ensures.value ∙ ap (λ (s : RoomSizes). s.persistent_roms) c.requires)
    (c.as_slice-3.ensures.value ∙ ap (λ (s : RoomSizes). s.persistent) c.requires)
    (c.as_slice-4.ensures.value ∙ ap (λ (s : RoomSizes). s.noise) c.requires)
    (subst (λ (l : Left). TakesThree c.as_slice.result.now c.as_slice-2.result.now c.as_slice-3.result.now c.as_slice-4.result.now c.args.words.now c.take_three.new.into_first c.take_three.new.into_second c.take_three.new.into_third l) c.in-On.is c.in_ok-end.ensures))
    false
    (sym c.in_ok-is_refined.ensures.value ∙ c.if-not-branch.true)

pub cycle_power-requires-clause-cells : goal.cycle_power-requires-clause-cells
cycle_power-requires-clause-cells c =
    let v = c.args.dev.now in
    let t =
    three-of c.as_slice.result.now c.as_slice-2.result.now c.as_slice-3.result.now c.as_slice-4.result.now _ _ _ _ c.args.words.now c.take_three.new.into_first c.take_three.new.into_second c.take_three.new.into_third (On c.in-On.left)
    (c.as_slice.ensures.value ∙ ap (λ (s : RoomSizes). s.fields) c.requires)
    (c.as_slice-2.ensures.value ∙ ap (λ (s : RoomSizes). s.persistent_roms) c.requires)
    (c.as_slice-3.ensures.value ∙ ap (λ (s : RoomSizes). s.persistent) c.requires)
    (c.as_slice-4.ensures.value ∙ ap (λ (s : RoomSizes). s.noise) c.requires)
    (subst (λ (l : Left). TakesThree c.as_slice.result.now c.as_slice-2.result.now c.as_slice-3.result.now c.as_slice-4.result.now c.args.words.now c.take_three.new.into_first c.take_three.new.into_second c.take_three.new.into_third l) c.in-On.is c.in_ok-end.ensures) in
    ap (fit (state_widths (cells_of v.circuit.lines))) c.in_ok-is_refined.ensures.spread
    ∙ c.persistent_words_are_spread.ensures.spread v.driver.keep c.take_three.new.into_second t.1

pub cycle_power-requires-clause-noise : goal.cycle_power-requires-clause-noise
cycle_power-requires-clause-noise c =
    let v = c.args.dev.now in
    let t =
    three-of c.as_slice.result.now c.as_slice-2.result.now c.as_slice-3.result.now c.as_slice-4.result.now _ _ _ _ c.args.words.now c.take_three.new.into_first c.take_three.new.into_second c.take_three.new.into_third (On c.in-On.left)
    (c.as_slice.ensures.value ∙ ap (λ (s : RoomSizes). s.fields) c.requires)
    (c.as_slice-2.ensures.value ∙ ap (λ (s : RoomSizes). s.persistent_roms) c.requires)
    (c.as_slice-3.ensures.value ∙ ap (λ (s : RoomSizes). s.persistent) c.requires)
    (c.as_slice-4.ensures.value ∙ ap (λ (s : RoomSizes). s.noise) c.requires)
    (subst (λ (l : Left). TakesThree c.as_slice.result.now c.as_slice-2.result.now c.as_slice-3.result.now c.as_slice-4.result.now c.args.words.now c.take_three.new.into_first c.take_three.new.into_second c.take_three.new.into_third l) c.in-On.is c.in_ok-end.ensures) in
    ap (fit (noise_widths v.circuit.lines v.driver.keep)) c.in_ok-is_refined.ensures.noise ∙ t.3

pub returns-clause-run : goal.returns-clause-run
returns-clause-run c =
    let v = c.args.dev.now in
    let cells = cells_of v.circuit.lines in
    let keep = v.driver.keep in
    let refined = c.in_ok-is_refined.ensures in
    let cycled = c.in_ok-cycle_power.ensures in
    let kept = cycled.kept ∙ refined.kept in
    let t =
    three-of c.as_slice.result.now c.as_slice-2.result.now c.as_slice-3.result.now c.as_slice-4.result.now _ _ _ _ c.args.words.now c.take_three.new.into_first c.take_three.new.into_second c.take_three.new.into_third (On c.in-On.left)
    (c.as_slice.ensures.value ∙ ap (λ (s : RoomSizes). s.fields) c.requires)
    (c.as_slice-2.ensures.value ∙ ap (λ (s : RoomSizes). s.persistent_roms) c.requires)
    (c.as_slice-3.ensures.value ∙ ap (λ (s : RoomSizes). s.persistent) c.requires)
    (c.as_slice-4.ensures.value ∙ ap (λ (s : RoomSizes). s.noise) c.requires)
    (subst (λ (l : Left). TakesThree c.as_slice.result.now c.as_slice-2.result.now c.as_slice-3.result.now c.as_slice-4.result.now c.args.words.now c.take_three.new.into_first c.take_three.new.into_second c.take_three.new.into_third l) c.in-On.is c.in_ok-end.ensures) in (
      cycled.fit,
      cycled.cells ∙ (λ i. state_after_power v.circuit.lines keep ((refined.spread ∙ ap (merge (keep_mask cells keep) (zeros_or (state_widths cells))) (sym kept)) i) (sym cycled.noise i)),
      powers-on v c.args.sc.now c.args.words.now c.take_three.new.into_first c.take_three.new.into_second c.take_three.new.into_third c.in-On.left.now _ _ _ t
          (sym refined.value ∙ c.if-not-branch.false)
          (cycled.fields ∙ ap (λ (st : State). st.fields) refined.state)
          kept
          (cycled.noise ∙ refined.noise),
    )
