use Rattle.std.proofs.Common.{◌∙◌, ap, subst, []}
use Rattle.knox_lang.specs.declared.parts.SpecParts.{SpecParts}
use Rattle.script_core.specs.declared.run.Left.{Left}
use Rattle.script_core.specs.Reached.{Takes}
use Rattle.script_core.specs.Rooms.{RoomSizes}
use Rattle.script_core.specs.Runs.{reach_of}
use Rattle.script_core.proofs.Projections.{is_refined-are}
use Rattle.script_core.proofs.Hosting.{factory-short, factory-on}
use Rattle.script_core.proofs.room.Room.factory.Goals as goal

pub returns-in-Ended-clause-run : goal.returns-in-Ended-clause-run
returns-in-Ended-clause-run c =
    factory-short c.args.dev.now c.args.sc.now c.as_slice.result.now c.args.words.now (reach_of c.in-Ended.end)
    (c.as_slice.ensures.value ∙ ap (λ (s : RoomSizes). s.factory_noise) c.requires)
    (subst (λ (l : Left). Takes c.as_slice.result.now c.args.words.now c.take_words.new.into l) c.in-Ended.is c.in_ok-end.ensures)

pub returns-clause-run : goal.returns-clause-run
returns-clause-run c =
    factory-on c.args.dev.now c.args.sc.now c.as_slice.result.now c.args.words.now c.take_words.new.into c.in-On.left.now c.copy_from.new.self c.in_ok-self.field-0.words _ _ _
    (c.as_slice.ensures.value ∙ ap (λ (s : RoomSizes). s.factory_noise) c.requires)
    (subst (λ (l : Left). Takes c.as_slice.result.now c.args.words.now c.take_words.new.into l) c.in-On.is c.in_ok-end.ensures)
    (c.in_ok-copy_from.ensures.ok ∙ (c.as_slice-2.ensures ∙ ap (λ (s : SpecParts). s.init) c.parts.ensures))
    c.in_ok-self.ensures.words
    c.checked.ensures
    (c.in_ok-refined.ensures.value ∙ is_refined-are c.args.dev.now c.args.sc.now (record { fields = c.copy_from.new.self; cells = c.in_ok-self.field-0.words; emu = c.args.self.now.emulator; copy = [] }))
    c.hint_of_kind.ensures
