use Rattle.std.proofs.Common.{◌∙◌, Some, ap, sym}
use Rattle.script_core.specs.Forms.{first_hint}
use Rattle.script_core.specs.Reached.{root_hint}
use Rattle.script_core.proofs.Formed.{formed-for}
use Rattle.script_core.proofs.Listing.{segment-hint, cut-hint}
use Rattle.script_core.proofs.script.Script.hint_of.Goals as goal

pub returns-in-Some-OfKind : goal.returns-in-Some-OfKind
returns-in-Some-OfKind c circuit s d e of =
    c.hint_of_kind.ensures
    ∙ sym (segment-hint circuit s d e c.args.self.now (formed-for _ c.args.self.now of c.parts-parts.ensures.form) c.args.g.0
    ∙ ap (root_hint c.args.self.now) (sym c.root_of.ensures ∙ (c.in-Some-OfKind.is ∙ ap (λ r. Some r) c.in-Some-OfKind.field-0-is)))

pub returns-in-Some-OfCut : goal.returns-in-Some-OfCut
returns-in-Some-OfCut c circuit s d e of =
    c.first_hint.ensures
    ∙ (ap first_hint c.wire.ensures
    ∙ (cut-hint circuit s d e c.args.self.now (formed-for _ c.args.self.now of c.parts-parts.ensures.form)
    ∙ sym (segment-hint circuit s d e c.args.self.now (formed-for _ c.args.self.now of c.parts-parts.ensures.form) c.args.g.0
    ∙ ap (root_hint c.args.self.now) (sym c.root_of.ensures ∙ (c.in-Some-OfCut.is ∙ ap (λ r. Some r) c.in-Some-OfCut.field-0-is)))))

pub returns-in-None : goal.returns-in-None
returns-in-None c circuit s d e of =
    sym (segment-hint circuit s d e c.args.self.now (formed-for _ c.args.self.now of c.parts-parts.ensures.form) c.args.g.0
    ∙ ap (root_hint c.args.self.now) (sym c.root_of.ensures ∙ c.in-None.is))
