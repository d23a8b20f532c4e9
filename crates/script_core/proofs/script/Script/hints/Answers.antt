use Rattle.std.proofs.Common.{◌∙◌, ap, sym}
use Rattle.script_core.specs.declared.parts.ScriptParts.{ScriptParts}
use Rattle.script_core.specs.Forms.{last_hint}
use Rattle.script_core.proofs.Formed.{formed-for, count-of-hints}
use Rattle.script_core.proofs.Listing.{all-hints-count}
use Rattle.script_core.proofs.script.Script.hints.Goals as goal

pub returns-clause-count : goal.returns-clause-count
returns-clause-count c =
    c.last_hint-last.ensures
    ∙ (ap (last_hint 0) (c.as_slice.ensures ∙ ap (λ (p : ScriptParts). p.sections) c.parts-parts.ensures.parts)
    ∙ count-of-hints c.args.self.now c.parts-parts.ensures.form)

pub returns-clause-all : goal.returns-clause-all
returns-clause-all c circuit s d e of =
    all-hints-count circuit s d e c.args.self.now (formed-for _ c.args.self.now of c.parts-parts.ensures.form) ∙ sym (returns-clause-count c)
