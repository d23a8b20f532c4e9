use Rattle.std.proofs.Common.{◌≡◌, ◌<◌, ◌-◌, ◌++◌, ◌∷◌, [], ℕ, List, length, sym, ◌∙◌, ap, subst, arith}
use Rattle.std.specs.Prelude.{slice_index_or}
use Rattle.sat_core.specs.Plain.{clauses_of}
use Rattle.std.proofs.lemmas.List.{get_or_read}
use Rattle.sat_core.specs.Resolved.{HasConflict}
use Rattle.sat_core.specs.Storing.{Fits}
use Rattle.sat_core.specs.Searching.{decision_at}
use Rattle.sat_core.proofs.ConflictLemmas.{conflict-above, quiet-below, lemma-fits, learned-new, same-learned}
use Rattle.sat_core.proofs.conflicts.learn_from.Goals as goal

last-at : (ds : List ℕ) (n x : ℕ) → n ≡ length ds → 0 < length ds → x ≡ slice_index_or ds (n - 1) x → x ≡ decision_at ds (length ds - 1)
last-at ds n x e some is = get_or_read ds (n - 1) x (omega (arith, e, some)) is 0 ∙ ap (λ (k : ℕ). decision_at ds (k - 1)) e

pub learn_conflict-requires-clause-conflict : goal.learn_conflict-requires-clause-conflict
learn_conflict-requires-clause-conflict c =
    let at : c.index-at.result.now ≡ decision_at c.args.search.now.decisions.items (length c.args.search.now.decisions.items - 1) = last-at c.args.search.now.decisions.items c.len.result c.index-at.result.now (c.len.ensures ∙ c.args.search.now.decisions.ok.0) c.requires.decided c.index-at.ensures in
    subst (λ cs. HasConflict cs c.args.search.now.trail c.as_slice-2.result.now c.index-at.result.now c.args.conflict) (sym c.as_slice.ensures.value)
    (subst (λ rs. HasConflict c.args.search.now.stored.items c.args.search.now.trail rs c.index-at.result.now c.args.conflict) (sym c.as_slice-2.ensures.value)
    (conflict-above c.args.search.now.stored.items c.args.search.now.lists.items c.args.search.now.trail c.args.search.now.reasons.items c.args.search.now.decisions.items c.args.search.now.done c.args.search.now.looked c.index-at.result.now c.args.conflict at c.requires.decided c.requires.sound.search c.requires.conflict))

pub learn_conflict-requires-clause-quiet : goal.learn_conflict-requires-clause-quiet
learn_conflict-requires-clause-quiet c =
    let at : c.index-at.result.now ≡ decision_at c.args.search.now.decisions.items (length c.args.search.now.decisions.items - 1) = last-at c.args.search.now.decisions.items c.len.result c.index-at.result.now (c.len.ensures ∙ c.args.search.now.decisions.ok.0) c.requires.decided c.index-at.ensures in
    quiet-below (clauses_of c.args.derivation.now) c.args.search.now.stored.items c.args.search.now.lists.items c.args.search.now.trail c.args.search.now.reasons.items c.args.search.now.decisions.items c.args.search.now.done c.args.search.now.looked c.index-at.result.now at c.requires.decided c.requires.sound.same c.requires.sound.search

pub attach-requires-clause-fits : goal.attach-requires-clause-fits
attach-requires-clause-fits c =
    subst (λ v. Fits c.in_ok-found.found.kept.items (length v.items)) (sym c.go_back.ensures.lists)
    (lemma-fits c.args.search.now.trail c.in_ok-found.found.kept.items c.index-at.result.now (length c.args.search.now.lists.items) c.requires.sound.search.ready.known c.in_ok-found.ensures.learned.lemma)

pub returns-clause-sound : goal.returns-clause-sound
returns-clause-sound c = record {
  plain = c.in_ok-found.ensures.plain;
  same = same-learned c.args.derivation.now c.learn_conflict.new.d c.args.search.now.stored.items c.attach.new.search.stored.items c.args.search.now.trail c.in_ok-found.found.kept.items c.index-at.result.now c.in_ok-found.ensures.learned
      (c.in_ok-attach.ensures.stored ∙ ap (λ v. v.items ++ c.in_ok-found.found.kept.items ∷ []) c.go_back.ensures.stored) c.requires.sound.same;
  search = c.in_ok-attach.ensures.search;
}

pub returns-clause-learns : goal.returns-clause-learns
returns-clause-learns c = learned-new c.args.derivation.now c.learn_conflict.new.d c.args.search.now.trail c.in_ok-found.found.kept.items c.index-at.result.now (length c.args.search.now.lists.items) c.requires.sound.search.consistent c.requires.sound.search.ready.known c.in_ok-found.ensures.learned
