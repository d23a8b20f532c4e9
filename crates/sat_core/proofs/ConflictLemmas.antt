-- What follows from a clause that is false.
use Rattle.std.proofs.Common.{◌≡◌, ℕ, ◌+◌, ◌-◌, ◌<◌, true, false, not, ◌&&◌, ◌||◌, List, [], ◌∷◌, ◌++◌, append_assoc, length, length-append, take, map, refl, sym, ◌∙◌, ap, subst, arith, inl, inr, None, Some}
use Rattle.std.specs.Prelude.{slice_index_or}
use Rattle.std.proofs.lemmas.Bool.{and_parts, or_cases, true≢false, both_ways, not-true, not_from_false, false_from_ne_true}
use Rattle.std.proofs.lemmas.List.{map-append}
use Rattle.knox_cnf.specs.Literals.{Literal, complement, same_literal, has}
use Rattle.lrat_check.specs.Derivations.{Proof, lits_of, is_empty}
use Rattle.lrat_check.proofs.LiteralLemmas.{same_literal-true}
use Rattle.sat_core.specs.Chains.{falsifies, clause_at}
use Rattle.sat_core.specs.Cones.{literal_at, IsAmong, IsCone}
use Rattle.sat_core.specs.Watches.{is_false, satisfied, guarded, IsConsistent}
use Rattle.sat_core.specs.Propagation.{is_quiet}
use Rattle.sat_core.specs.Plain.{clauses_of}
use Rattle.sat_core.specs.Resolved.{HasConflict, IsAssertive}
use Rattle.sat_core.specs.Explained.{SameClauses, Learned}
use Rattle.sat_core.specs.Lists.{HasList}
use Rattle.sat_core.specs.Newness.{has_no_pair}
use Rattle.sat_core.specs.Storing.{Fits, Finishes}
use Rattle.sat_core.specs.Searching.{decision_at, Stands}
use Rattle.sat_core.specs.Deriving.{IsRefuted, ArePlaces, LearnsNew}
use Rattle.sat_core.proofs.Members.{any-at, all-has, all-from, has-take}
use Rattle.sat_core.proofs.Resolving.{has-take-place, take-all}
use Rattle.sat_core.proofs.StoringLemmas.{same-push}
use Rattle.sat_core.proofs.PropagatedLemmas.{finished-quiet}
use Rattle.sat_core.proofs.DecidingLemmas.{last-le}

-- ---- where something was decided

guarded-stands : (t c : List Literal) → IsConsistent t → guarded t c ≡ true → falsifies t c ≡ true → ⊥
guarded-stands t [] ok g f = true≢false (sym g)
guarded-stands t (a ∷ []) ok g f = let p = and_parts (has t (complement a)) true f in both_ways (has t (complement a)) (ok.each a g) p.0
guarded-stands t (a ∷ b ∷ c) ok g f = elim (or_cases (not (is_false t a) && not (is_false t b)) (satisfied t (a ∷ b ∷ c)) g) [
  | inl n ↦ (let p = and_parts (not (is_false t a)) (not (is_false t b)) n in let q = and_parts (has t (complement a)) (falsifies t (b ∷ c)) f in both_ways (is_false t a) (not-true (is_false t a) p.0) q.0)
  | inr s ↦ (let w = any-at (has t) (a ∷ b ∷ c) s in both_ways (has t (complement w.0)) (ok.each w.0 w.2) (all-has (λ x. has t (complement x)) (a ∷ b ∷ c) w.0 f w.1))
]

consistent-take : (t : List Literal) (n : ℕ) → IsConsistent t → IsConsistent (take n t)
consistent-take t n ok = record { each = λ x h. false_from_ne_true (has (take n t) (complement x)) (λ m. both_ways (has t (complement x)) (ok.each x (has-take n t x h)) (has-take n t (complement x) m)) }

pub conflict-above : (stored : List (List Literal)) (lists : List (List ℕ)) (t : List Literal) (reasons ds : List ℕ) (done looked at k : ℕ) → at ≡ decision_at ds (length ds - 1) → 0 < length ds → Stands stored lists t reasons ds done looked → Finishes stored t (Some k) → HasConflict stored t reasons at k
conflict-above stored lists t reasons ds done looked at k e some s f =
    let last : length ds - 1 < length ds = omega (arith, some) in
    subst (λ (z : ℕ). HasConflict stored t reasons z k) (sym e) (record {
      decided = s.decided.inside (length ds - 1) last;
      inside = f.0;
      false_now = f.1;
      before = false_from_ne_true (falsifies (take (decision_at ds (length ds - 1)) t) (clause_at stored k))
          (λ h. guarded-stands (take (decision_at ds (length ds - 1)) t) (clause_at stored k) (consistent-take t (decision_at ds (length ds - 1)) s.consistent) (s.guards (length ds - 1) last k f.0) h);
      reasoned = λ p lo hi. s.reasoned p hi (λ i il same. let le = last-le ds t i s.decided il in let z : decision_at ds i ≡ p = same in omega (arith, le, z, lo));
    })

pub quiet-below : (cs stored : List (List Literal)) (lists : List (List ℕ)) (t : List Literal) (reasons ds : List ℕ) (done looked at : ℕ) → at ≡ decision_at ds (length ds - 1) → 0 < length ds → SameClauses cs stored → Stands stored lists t reasons ds done looked → is_quiet cs (take at t) ≡ true
quiet-below cs stored lists t reasons ds done looked at e some same s =
    finished-quiet cs stored (take at t) (consistent-take t at s.consistent) same s.ready.distinct
    (subst (λ (z : ℕ). Finishes stored (take z t) None) (sym e) (s.guards (length ds - 1) (omega (arith, some))))

-- ---- the lemma

lemma-false : (t c : List Literal) (at : ℕ) (x : Literal) → IsAssertive t at c → has c x ≡ true → has t (complement x) ≡ true
lemma-false t c at x a h = elim (or_cases (same_literal x a.literal) (has a.rest x) (ap (λ d. has d x) (sym a.is) ∙ h)) [
  | inl e ↦ ap (λ y. has t (complement y)) (same_literal-true x a.literal e) ∙ a.refuted
  | inr e ↦ has-take at t (complement x) (all-has (λ y. has (take at t) (complement y)) a.rest x a.below e)
]

pub lemma-fits : (t c : List Literal) (at n : ℕ) → ((x : Literal) → has t x ≡ true → HasList n x) → IsAssertive t at c → Fits c n
lemma-fits t c at n k a = record { each = λ x h. let l = k (complement x) (lemma-false t c at x a h) in record { low = l.low; high = l.high } }

lemma-unpaired : (t c : List Literal) (at : ℕ) → IsConsistent t → IsAssertive t at c → has_no_pair c ≡ true
lemma-unpaired t c at ok a = all-from (λ x. not (has c (complement x))) c (λ x h.
    not_from_false (has c (complement x)) (false_from_ne_true (has c (complement x)) (λ m.
    both_ways (has t (complement (complement x))) (ok.each (complement x) (lemma-false t c at x a h)) (lemma-false t c at (complement x) a m))))

lemma-some : (t c : List Literal) (at : ℕ) → IsAssertive t at c → is_empty c ≡ false
lemma-some t c at a = ap is_empty a.is

pub learned-new : (old new : Proof) (t c : List Literal) (at n : ℕ) → IsConsistent t → ((x : Literal) → has t x ≡ true → HasList n x) → Learned old new t at c → LearnsNew n old new
learned-new old new t c at n ok k l = record {
  lits = c;
  hints = l.hints;
  added = l.added;
  fresh = l.fresh;
  unpaired = lemma-unpaired t c at ok l.lemma;
  fits = lemma-fits t c at n k l.lemma;
  some = lemma-some t c at l.lemma;
}

-- the clauses with one more lemma
pub clauses-more : (old new : Proof) (t c : List Literal) (at : ℕ) → Learned old new t at c → clauses_of new ≡ clauses_of old ++ c ∷ []
clauses-more old new t c at l =
    ap clauses_of l.added
    ∙ ap (λ ls. old.cnf.clauses ++ ls) (map-append lits_of old.lemmas _)
    ∙ sym (append_assoc old.cnf.clauses (map lits_of old.lemmas) (c ∷ []))

pub same-learned : (old new : Proof) (stored now : List (List Literal)) (t c : List Literal) (at : ℕ) → Learned old new t at c → now ≡ stored ++ c ∷ [] → SameClauses (clauses_of old) stored → SameClauses (clauses_of new) now
same-learned old new stored now t c at l e s =
    subst (SameClauses (clauses_of new)) (sym e) (subst (λ cs. SameClauses cs (stored ++ c ∷ [])) (sym (clauses-more old new t c at l)) (record {
      long = same-length (clauses_of old) stored s.long;
      each = same-push (clauses_of old) stored c c s.long s.each (record { each = λ x. refl });
    }))
  where
    same-length : (xs ys : List (List Literal)) → length ys ≡ length xs → length (ys ++ c ∷ []) ≡ length (xs ++ c ∷ [])
    same-length xs ys h = omega (arith, h, length-append xs (c ∷ []), length-append ys (c ∷ []))

-- ---- where nothing was decided

pub refuted-below : (stored : List (List Literal)) (lists : List (List ℕ)) (t : List Literal) (reasons ds : List ℕ) (done looked k : ℕ) → length ds ≡ 0 → Stands stored lists t reasons ds done looked → Finishes stored t (Some k) → IsRefuted stored t reasons k
refuted-below stored lists t reasons ds done looked k e s f = record { inside = f.0; false_now = f.1; reasoned = λ p h. s.reasoned p h (λ i il same. omega (arith, il, e)) }

among-at : (ps : List ℕ) (n p : ℕ) → ArePlaces ps n → p < n → IsAmong p ps
among-at ps n p a h = (p, subst (λ (z : ℕ). p < z) (sym a.long) h, a.each p h)

pub among-below : (ps : List ℕ) (n p : ℕ) → ArePlaces ps n → IsAmong p ps → p < n
among-below ps n p a m =
    let k : m.0 < n = subst (λ (z : ℕ). m.0 < z) a.long m.1 in
    let e : m.0 ≡ p = sym (a.each m.0 k) ∙ m.2 in
    omega (arith, k, e)

pub full-cone : (cs : List (List Literal)) (t : List Literal) (reasons ps : List ℕ) (conflict : ℕ) → ArePlaces ps (length t) → IsRefuted cs t reasons conflict → IsCone cs t [] reasons ps conflict
full-cone cs t reasons ps conflict a r = record {
  rising = λ i j lt h.
      let jl : j < length t = subst (λ (z : ℕ). j < z) a.long h in
      let first = a.each i (omega (arith, lt, jl)) in
      let second = a.each j jl in
      omega (arith, first, second, lt);
  within = λ p m. among-below ps (length t) p a m;
  reasoned = λ p m. (r.reasoned p (among-below ps (length t) p a m)).inside;
  closed = λ p x m h.
      let reason = r.reasoned p (among-below ps (length t) p a m) in
      let lt : p < length t = among-below ps (length t) p a m in
      elim (or_cases (has (take p t) (complement x)) (same_literal (literal_at t p) x) (all-has (λ y. has (take p t) (complement y) || same_literal (literal_at t p) y) (clause_at cs (slice_index_or reasons p 0)) x reason.forced h)) [
        | inl e ↦ (let w = has-take-place p t (complement x) e in let b = w.1 in inr (inr (w.0, among-at ps (length t) w.0 a (omega (arith, b, lt)), w.1, sym (same_literal-true (complement x) (literal_at t w.0) w.2))))
        | inr e ↦ inl e
      ];
  inside = r.inside;
  ended = λ x h.
      let w = has-take-place (length t) t (complement x) (ap (λ u. has u (complement x)) (take-all t) ∙ all-has (λ y. has t (complement y)) (clause_at cs conflict) x r.false_now h) in
      inr (w.0, among-at ps (length t) w.0 a w.1, w.1, sym (same_literal-true (complement x) (literal_at t w.0) w.2));
}

pub reason-small : (cs : List (List Literal)) (t : List Literal) (reasons ps : List ℕ) (conflict p n : ℕ) → length cs < n → ArePlaces ps (length t) → IsRefuted cs t reasons conflict → IsAmong p ps → slice_index_or reasons p 0 + 1 < n
reason-small cs t reasons ps conflict p n few a r m = let i = (r.reasoned p (among-below ps (length t) p a m)).inside in omega (arith, i, few)
