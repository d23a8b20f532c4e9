use Rattle.std.proofs.Common.{◌<◌, ◌^◌, ◌++◌, ◌∷◌, [], ℕ, suc, sym, ◌∙◌, ap, subst, length}
use Rattle.std.specs.Prelude.{pos}
use Rattle.sat_core.specs.Explained.{ids_of}
use Rattle.sat_core.specs.Cones.{IsAmong}
use Rattle.sat_core.specs.Plain.{clauses_of}
use Rattle.sat_core.specs.Chains.{IsShown}
use Rattle.sat_core.specs.Deriving.{ArePlaces}
use Rattle.sat_core.proofs.ConflictLemmas.{among-below, reason-small, full-cone}
use Rattle.sat_core.proofs.Showing.{conflict-small, cone-hints}
use Rattle.sat_core.proofs.explaining.refute.Goals as goal

pub hints_of-requires-clause-within : goal.hints_of-requires-clause-within
hints_of-requires-clause-within c = λ p h.
    subst (λ (n : ℕ). p < n) (c.len.ensures ∙ sym c.requires.reasons) (among-below c.in_ok-cone.cone.items c.len.result p c.in_ok-cone.ensures (subst (IsAmong p) c.as_slice.ensures.value h))

pub hints_of-requires-clause-small : goal.hints_of-requires-clause-small
hints_of-requires-clause-small c = λ p h.
    reason-small c.args.stored.now c.args.trail.now c.args.reasons.now c.in_ok-cone.cone.items c.args.conflict p (2 ^ 63) c.requires.few (subst (ArePlaces c.in_ok-cone.cone.items) c.len.ensures c.in_ok-cone.ensures) c.requires.refuted (subst (IsAmong p) c.as_slice.ensures.value h)

pub hints_of-requires-clause-last : goal.hints_of-requires-clause-last
hints_of-requires-clause-last c = conflict-small (length c.args.stored.now) c.args.conflict (2 ^ 63) c.requires.refuted.inside c.requires.few

pub learn-requires-clause-shown : goal.learn-requires-clause-shown
learn-requires-clause-shown c =
    subst (λ ls. IsShown (clauses_of c.args.d.now) ls c.as_slice-3.result.now) (sym (c.as_slice-2.ensures.value ∙ c.new-none.ensures.items))
    (subst (IsShown (clauses_of c.args.d.now) _) (sym c.as_slice-3.ensures.value)
    (cone-hints (clauses_of c.args.d.now) c.args.stored.now c.args.trail.now c.args.reasons.now c.args.conflict _ c.in_ok-cone.cone.items c.in_ok-hints.hints.items c.requires.same
    (full-cone c.args.stored.now c.args.trail.now c.args.reasons.now c.in_ok-cone.cone.items c.args.conflict (subst (ArePlaces c.in_ok-cone.cone.items) c.len.ensures c.in_ok-cone.ensures) c.requires.refuted)
    (c.in_ok-hints.ensures ∙ ap (λ ps. ids_of c.args.reasons.now ps ++ pos (suc c.args.conflict) ∷ []) c.as_slice.ensures.value)))
