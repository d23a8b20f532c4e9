use Rattle.std.proofs.Common.{◌∙◌, Some, ap, sym}
use Rattle.script_core.specs.Reached.{root_bits}
use Rattle.script_core.specs.Runs.{counted}
use Rattle.script_core.proofs.Formed.{fits-for}
use Rattle.script_core.proofs.Rooted.{root-bits}
use Rattle.script_core.proofs.bits.choice_bits.Goals as goal

pub returns-in-Some-OfKind : goal.returns-in-Some-OfKind
returns-in-Some-OfKind c =
    c.kind_bits.ensures
    ∙ ap counted (sym (root-bits c.args.dev.now c.args.sc.now (fits-for _ c.args.sc.now c.requires.of c.parts-parts.ensures.form) c.args.g.0
    ∙ ap (root_bits c.args.dev.now c.args.sc.now) (sym c.root_of.ensures ∙ (c.in-Some-OfKind.is ∙ ap (λ r. Some r) c.in-Some-OfKind.field-0-is))))

pub returns-in-Some-OfCut : goal.returns-in-Some-OfCut
returns-in-Some-OfCut c =
    c.cut_bits.ensures
    ∙ ap counted (sym (root-bits c.args.dev.now c.args.sc.now (fits-for _ c.args.sc.now c.requires.of c.parts-parts.ensures.form) c.args.g.0
    ∙ ap (root_bits c.args.dev.now c.args.sc.now) (sym c.root_of.ensures ∙ (c.in-Some-OfCut.is ∙ ap (λ r. Some r) c.in-Some-OfCut.field-0-is))))

pub returns-in-None : goal.returns-in-None
returns-in-None c =
    ap counted (sym (root-bits c.args.dev.now c.args.sc.now (fits-for _ c.args.sc.now c.requires.of c.parts-parts.ensures.form) c.args.g.0
    ∙ ap (root_bits c.args.dev.now c.args.sc.now) (sym c.root_of.ensures ∙ c.in-None.is)))
