-- Reasons of literals, as literals are appended and watches moved.
use Rattle.std.proofs.Common.{◌≡◌, ℕ, ◌+◌, ◌<◌, true, ◌||◌, List, [], ◌∷◌, ◌++◌, length, length-append, take, refl, sym, ◌∙◌, ap, subst, arith, inl, inr}
use Rattle.std.specs.Prelude.{slice_index_or}
use Rattle.std.proofs.lemmas.Bool.{cases_lt}
use Rattle.std.proofs.lemmas.List.{get_or_append_left, get_or_at, length-set, take-append-le, take_at}
use Rattle.knox_cnf.specs.Literals.{Literal, complement, same_literal, has}
use Rattle.sat_core.specs.Chains.{asserts, clause_at}
use Rattle.sat_core.specs.Cones.{literal_at, HasReasons, Reasoned}
use Rattle.sat_core.specs.Watches.{HasSame}
use Rattle.sat_core.specs.declared.visiting.Visit.TheVariants as visit
use Rattle.sat_core.specs.Lists.{VisitedAt, AreRewatched, Appends}
use Rattle.sat_core.proofs.Listing.{set-same}
use Rattle.sat_core.proofs.Members.{all-from, all-has}

-- a clause is read as a set
pub asserts-same : (t c d : List Literal) (l : Literal) → HasSame c d → asserts t c l ≡ true → asserts t d l ≡ true
asserts-same t c d l s a = all-from (λ x. has t (complement x) || same_literal l x) d (λ x h. all-has (λ x. has t (complement x) || same_literal l x) c x a (s.each x ∙ h))

pub reasons-same : (t : List Literal) (a b : List (List Literal)) (trail : List Literal) (reasons : List ℕ) (p : ℕ) → AreRewatched t a b → HasReasons a trail reasons p → HasReasons b trail reasons p
reasons-same t a b trail reasons p w r = record {
  inside = subst (λ (n : ℕ). slice_index_or reasons p 0 < n) (sym w.long) r.inside;
  forced = asserts-same (take p trail) (clause_at a (slice_index_or reasons p 0)) (clause_at b (slice_index_or reasons p 0)) (literal_at trail p) (w.each (slice_index_or reasons p 0)).same r.forced;
}

-- a reason speaks of the literals before its place, and of the one there
pub reasons-at : (cs : List (List Literal)) (was is : List Literal) (before after : List ℕ) (p : ℕ) → take p is ≡ take p was → literal_at is p ≡ literal_at was p → slice_index_or after p 0 ≡ slice_index_or before p 0 → HasReasons cs was before p → HasReasons cs is after p
reasons-at cs was is before after p t l e r = record {
  inside = subst (λ (n : ℕ). n < length cs) (sym e) r.inside;
  forced = rw (t, l, e) r.forced;
}

pub reasons-more : (cs : List (List Literal)) (was is added : List Literal) (before after : List ℕ) (p : ℕ) → is ≡ was ++ added → p < length was → slice_index_or after p 0 ≡ slice_index_or before p 0 → HasReasons cs was before p → HasReasons cs is after p
reasons-more cs was is added before after p e lt s r =
    reasons-at cs was is before after p
    (ap (take p) e ∙ take-append-le p was added (omega (arith, lt)))
    (ap (λ t. literal_at t p) e ∙ get_or_append_left was added _ p lt) s r

pub reasoned-old : (a b : List (List Literal)) (was is : List Literal) (r s : List ℕ) (p : ℕ) → AreRewatched was a b → Appends a was is → Reasoned b was is r s → p < length was → HasReasons a was r p → HasReasons b is s p
reasoned-old a b was is r s p w e q lt h = reasons-more b was is e.added r s p e.appended lt (q.kept p lt) (reasons-same was a b was r p w h)

pub reasoned-none : (cs : List (List Literal)) (t : List Literal) (rs : List ℕ) → length rs ≡ length t → Reasoned cs t t rs rs
reasoned-none cs t rs l = record { long = l; kept = λ p h. refl; each = λ p lo hi. absurd (omega (arith, lo, hi)) }

pub reasoned-on : (cs a b : List (List Literal)) (was mid is : List Literal) (r s t : List ℕ) → AreRewatched mid a b → Appends cs was mid → Appends a mid is → Reasoned a was mid r s → Reasoned b mid is s t → Reasoned b was is r t
reasoned-on cs a b was mid is r s t w first second p q = record {
  long = q.long;
  kept = λ k h. q.kept k (longer k h) ∙ p.kept k h;
  each = λ k lo hi. elim (cases_lt k (length mid)) [
    | inl lt ↦ reasons-more b mid is second.added s t k second.appended lt (q.kept k lt) (reasons-same mid a b mid s k w (p.each k lo lt))
    | inr ge ↦ q.each k ge hi
  ];
}
  where
    longer : (k : ℕ) → k < length was → k < length mid
    longer k h = let e : length mid ≡ length was + length first.added = ap length first.appended ∙ length-append was first.added in omega (arith, e, h)

-- one more literal, and its reason
pub reasoned-push : (cs : List (List Literal)) (t new : List Literal) (l : Literal) (r s : List ℕ) (k : ℕ) → new ≡ t ++ l ∷ [] → s ≡ r ++ k ∷ [] → length r ≡ length t → k < length cs → asserts t (clause_at cs k) l ≡ true → Reasoned cs t new r s
reasoned-push cs t new l r s k e f long inside a = record {
  long = ap length f ∙ length-append r (k ∷ []) ∙ ap (λ n. n + 1) long ∙ sym (length-append t (l ∷ [])) ∙ ap length (sym e);
  kept = λ p h. ap (λ xs. slice_index_or xs p 0) f ∙ get_or_append_left r (k ∷ []) 0 p (subst (λ (n : ℕ). p < n) (sym long) h);
  each = λ p lo hi.
      let n : length new ≡ length t + 1 = ap length e ∙ length-append t (l ∷ []) in
      let at : p ≡ length t = omega (arith, n, lo, hi) in
      let reason : slice_index_or s p 0 ≡ k = ap (λ xs. slice_index_or xs p 0) f ∙ get_or_at r k [] 0 p (long ∙ sym at) in
      record {
        inside = subst (λ (i : ℕ). i < length cs) (sym reason) inside;
        forced = rw (ap (take p) e ∙ take_at t (l ∷ []) p (sym at), ap (λ xs. literal_at xs p) e ∙ get_or_at t l [] _ p (sym at), reason) a;
      };
}

-- the literal that a visit forces
pub reasoned-visited : (old new : List (List Literal)) (t is : List Literal) (f l : Literal) (r s : List ℕ) (k : ℕ) → k < length old → VisitedAt t f k old new (visit.Force l) → length r ≡ length t → is ≡ t ++ l ∷ [] → s ≡ r ++ k ∷ [] → Reasoned new t is r s
reasoned-visited old new t is f l r s k lt h long e g =
    let at : clause_at new k ≡ h.clause = ap (λ cs. clause_at cs k) h.after ∙ set-same old k h.clause lt in
    reasoned-push new t is l r s k e g long (subst (λ (n : ℕ). k < n) (sym (ap length h.after ∙ length-set old k h.clause)) lt) (ap (λ c. asserts t c l) at ∙ h.visits.2)
