use Rattle.std.proofs.Common.{◌∙◌, ◌≤◌, ◌<◌, ap, sym, subst, length, slice_get}
use Rattle.script_core.specs.Hints.{roots}
use Rattle.script_core.specs.Forms.{segment_number}
use Rattle.script_core.specs.Runs.{segments_of}
use Rattle.script_core.proofs.Formed.{formed-for, wire-counts, number-below}
use Rattle.script_core.proofs.Listing.{segment-found}
use Rattle.script_core.proofs.script.Script.segment_of.Goals as goal

pub segment_number-requires-clause-wire : goal.segment_number-requires-clause-wire
segment_number-requires-clause-wire c = subst (λ n. 1 ≤ n) (sym c.hint_of_kind-wire.ensures) (wire-counts c.args.self.now c.parts-parts.ensures.form)

pub returns-clause-number : goal.returns-clause-number
returns-clause-number c =
    subst (λ n. n < length (roots c.args.self.now.sections)) (sym (c.segment_number.ensures ∙ ap (λ w. segment_number w c.args.hint.0) c.hint_of_kind-wire.ensures))
    (number-below c.args.self.now c.parts-parts.ensures.form c.args.hint.0 c.requires.last)

pub returns-clause-segment : goal.returns-clause-segment
returns-clause-segment c circuit s d e of =
    segment-found circuit s d e c.args.self.now (formed-for _ c.args.self.now of c.parts-parts.ensures.form) c.args.hint.0 c.requires.first
    ∙ ap (slice_get (segments_of circuit s d e c.args.self.now)) (sym (c.segment_number.ensures ∙ ap (λ w. segment_number w c.args.hint.0) c.hint_of_kind-wire.ensures))
