use Rattle.std.proofs.Common.{◌≡◌, ◌∙◌, ap, sym, subst, Bool, IfOk}
use Rattle.knox_circuit.specs.Cells.{cells_of}
use Rattle.knox_words.specs.Lists.{pick}
use Rattle.script_core.specs.Hints.{refines}
use Rattle.script_core.specs.Rooms.{RoomSizes, state_in}
use Rattle.script_core.proofs.Projections.{is_refined-are}
use Rattle.script_core.proofs.room.Room.stays_refined.Goals as goal

pub returns-clause-value : goal.returns-clause-value
returns-clause-value c =
    let v = c.args.dev.now in
    let kept = c.in_ok-pick_words.ensures ∙ (λ i. pick ((c.as_slice.ensures.value ∙ ap (λ (s : RoomSizes). s.mask) c.requires) i) (c.as_slice-2.ensures i)) in
    subst (λ (z : Bool). IfOk c.is_refined.result (λ (b : Bool). b ≡ z))
    (ap (refines v.spec.funs (cells_of v.circuit.lines) v.driver.keep c.args.sc.now.refine c.args.self.now.fields) kept ∙ sym (is_refined-are v c.args.sc.now (state_in c.args.self.now)))
    c.is_refined.ensures.value
