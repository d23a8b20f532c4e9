-- Propagation over clauses of any length, and its end.
use Rattle.std.proofs.Common.{◌≡◌, ℕ, zero, suc, ◌+◌, ◌<◌, ◌≤◌, true, false, not, ◌&&◌, ◌||◌, List, [], ◌∷◌, ◌++◌, length, refl, sym, ◌∙◌, ap, subst, arith, inl, inr, ◌⊎◌, Option, Some, None}
use Rattle.std.specs.Option.{is_some}
use Rattle.std.proofs.lemmas.Bool.{and_parts, and_from, or_left, or_right, or_cases, true≢false, not-true, cases_eq}
use Rattle.knox_cnf.specs.Literals.{Literal, complement, same_literal, has}
use Rattle.lrat_check.specs.declared.reading.Reading.TheVariants.{False}
use Rattle.lrat_check.specs.Reading.{open_literals, reading_of, reading_of_open}
use Rattle.lrat_check.proofs.LiteralLemmas.{same_literal-refl}
use Rattle.std.specs.Prelude.{replicate}
use Rattle.knox_cnf.specs.declared.formula.Cnf.{Cnf}
use Rattle.lrat_check.specs.Derivations.{Proof, live_clause, start_of}
use Rattle.sat_core.specs.Chains.{asserts, falsifies, clause_at}
use Rattle.sat_core.specs.Watches.{is_false, satisfied, guarded, watches_differ, IsConsistent, HasSame}
use Rattle.sat_core.specs.Visits.{IsDistinct}
use Rattle.sat_core.specs.Plain.{IsPlain, clauses_of}
use Rattle.sat_core.specs.Propagation.{rests, rests_at, is_quiet, Propagates}
use Rattle.sat_core.specs.Explained.{SameClauses}
use Rattle.sat_core.specs.Cones.{Reasoned}
use Rattle.sat_core.specs.Lists.{settled, AreSettled, IsReady, Passes, Stops, Appends, AreAsserted, IsAsserted, AreRewatched}
use Rattle.sat_core.specs.Storing.{AssertsUnit, ShortsHold, Units, Finishes, Propagated}
use Rattle.sat_core.specs.Solving.{Solving, EndsAt}
use Rattle.sat_core.proofs.Members.{all-has, all-from, has-left}
use Rattle.sat_core.proofs.Readings.{falsified, open-has, two-open}
use Rattle.sat_core.proofs.Listing.{satisfied-more, settled-more}
use Rattle.sat_core.proofs.Reasoning.{reasoned-none, reasoned-push, reasoned-on}
use Rattle.sat_core.proofs.Outcomes.{same-all, appends-none}
use Rattle.sat_core.proofs.Walking.{appends-on, appends-has, passes-on, ready-on}
use Rattle.sat_core.proofs.Watching.{satisfied-same, satisfied-rests}
use Rattle.sat_core.proofs.Plainly.{plain-look}
use Rattle.sat_core.proofs.Forcing.{appends-propagates, distinct-differ}

-- ---- one clause of fewer than two literals

unit-forces : (t c : List Literal) (l : Literal) → c ≡ l ∷ [] → asserts t c l ≡ true
unit-forces t c l e = subst (λ d. asserts t d l ≡ true) (sym e) (and_from (has t (complement l) || same_literal l l) true (or_right (has t (complement l)) (same_literal l l) (same_literal-refl l)) refl)

unit-asserted : (cs : List (List Literal)) (t c : List Literal) (l : Literal) (k : ℕ) → c ≡ clause_at cs k → c ≡ l ∷ [] → has t l ≡ false → is_false t l ≡ false → IsAsserted cs t l
unit-asserted cs t c l k e is n f = record {
  new = n;
  free = f;
  clause = k;
  holds = subst (λ d. has d l ≡ true) (sym is ∙ e) (or_left (same_literal l l) false (same_literal-refl l));
  asserted = unit-forces t (clause_at cs k) l (sym e ∙ is);
}

unit-appends : (cs : List (List Literal)) (c was t new : List Literal) (r rs : List ℕ) (k : ℕ) → c ≡ clause_at cs k → Appends cs was t → AssertsUnit c k t new r rs true → Appends cs was new
unit-appends cs c was t new r rs k e a u = elim u.0 [
  | inl s ↦ subst (Appends cs was) (sym s.0) a
  | inr w ↦ appends-on cs cs was t new (same-all was cs) a (record { added = w.0 ∷ []; appended = w.4; asserted = (unit-asserted cs t c w.0 k e w.1 w.2 w.3, tt) })
]

unit-has : (c t new : List Literal) (k : ℕ) (r rs : List ℕ) (x : Literal) → AssertsUnit c k t new r rs true → has t x ≡ true → has new x ≡ true
unit-has c t new k r rs x u h = elim u.0 [
  | inl s ↦ ap (λ ls. has ls x) s.0 ∙ h
  | inr w ↦ ap (λ ls. has ls x) w.4 ∙ has-left t (w.0 ∷ []) x h
]

unit-reasoned : (cs : List (List Literal)) (c t new : List Literal) (r rs : List ℕ) (k : ℕ) → c ≡ clause_at cs k → k < length cs → length r ≡ length t → AssertsUnit c k t new r rs true → Reasoned cs t new r rs
unit-reasoned cs c t new r rs k e lt long u = elim u.0 [
  | inl s ↦ subst (λ ts. Reasoned cs t ts r rs) (sym s.0) (subst (Reasoned cs t t r) (sym s.1) (reasoned-none cs t r long))
  | inr w ↦ reasoned-push cs t new w.0 r rs k w.4 w.5 long lt (unit-forces t (clause_at cs k) w.0 (sym e ∙ w.1))
]

-- after some clauses were looked at
pub record Looked (cs : List (List Literal)) (was t : List Literal) (r rs : List ℕ) (k : ℕ) : Type 0 where
  pub appends : Appends cs was t
  pub reasoned : Reasoned cs was t r rs
  pub shorts : ShortsHold cs t k

pub units-step : (cs : List (List Literal)) (c was t new : List Literal) (r rs later : List ℕ) (k : ℕ) → c ≡ clause_at cs k → k < length cs → AssertsUnit c k t new rs later true → Looked cs was t r rs k → Looked cs was new r later (k + 1)
units-step cs c was t new r rs later k e inside u i = record {
  appends = unit-appends cs c was t new rs later k e i.appends u;
  reasoned = reasoned-on cs cs cs was t new r rs later (same-all t cs) i.appends (unit-appends cs c t t new rs later k e (appends-none cs t) u) i.reasoned (unit-reasoned cs c t new rs later k e inside i.reasoned.long u);
  shorts = λ j lt short. elim (cases_eq j k) [
    | inl is ↦ subst (λ d. satisfied new d ≡ true) (e ∙ ap (clause_at cs) (sym is)) (u.1 (subst (λ d. length d < 2) (ap (clause_at cs) is ∙ sym e) short))
    | inr ne ↦ satisfied-more t new (clause_at cs j) (λ x h. unit-has c t new k rs later x u h) (i.shorts j (below j lt ne) short)
  ];
}
  where
    below : (j : ℕ) → j < k + 1 → (j ≡ k → ⊥) → j < k
    below j lt ne = omega (arith, lt, ne)

pub units-start : (cs : List (List Literal)) (t : List Literal) (r : List ℕ) (n : ℕ) → length r ≡ length t → ShortsHold cs t n → Looked cs t t r r n
units-start cs t r n long h = record { appends = appends-none cs t; reasoned = reasoned-none cs t r long; shorts = h }

pub unit-false : (cs : List (List Literal)) (c was t new : List Literal) (r rs later : List ℕ) (k : ℕ) → c ≡ clause_at cs k → AssertsUnit c k t new rs later false → Looked cs was t r rs k → Looked cs was new r later k × (falsifies new (clause_at cs k) ≡ true)
unit-false cs c was t new r rs later k e u i =
    (subst (λ ts. Looked cs was ts r later k) (sym u.0) (subst (λ xs. Looked cs was t r xs k) (sym u.1) i), subst (λ d. falsifies new d ≡ true) e (subst (λ ls. falsifies ls c ≡ true) (sym u.0) u.2))

pub units-end : (cs : List (List Literal)) (t : List Literal) (k : ℕ) → length cs ≤ k → ShortsHold cs t k → Units cs t None
units-end cs t k h s = λ j lt short. s j (omega (arith, lt, h)) short

-- ---- all clauses

pub settled-zero : (t c : List Literal) → settled t 0 c ≡ true
settled-zero t [] = refl
settled-zero t (a ∷ []) = refl
settled-zero t (a ∷ b ∷ c) = refl

units-passes : (cs : List (List Literal)) (lists : List (List ℕ)) (was mid : List Literal) (done : ℕ) → IsReady cs lists was done → Appends cs was mid → Passes cs cs lists lists was mid
units-passes cs lists was mid done r a = record { rewatched = same-all was cs; appends = a; long = refl; listed = r.listed }

settled-appends : (cs ds : List (List Literal)) (was mid : List Literal) (done : ℕ) → done ≤ length was → Appends ds was mid → AreSettled cs was done → AreSettled cs mid done
settled-appends cs ds was mid done le a s = λ k. ap (λ t. settled t done (clause_at cs k)) a.appended ∙ settled-more was done (clause_at cs k) a.added le (s k)

pub units-ready : (cs : List (List Literal)) (lists : List (List ℕ)) (was mid : List Literal) (done : ℕ) → done ≤ length was → IsReady cs lists was done → Appends cs was mid → IsReady cs lists mid done
units-ready cs lists was mid done le r a = ready-on cs cs lists lists was mid done done r (units-passes cs lists was mid done r a) (settled-appends cs cs was mid done le a r.quiet)

some-finishes : (cs : List (List Literal)) (t : List Literal) (r : Option ℕ) → is_some r ≡ true → Units cs t r → Finishes cs t r
some-finishes cs t None h u = absurd (true≢false (sym h))
some-finishes cs t (Some k) h u = u

pub units-false : (cs : List (List Literal)) (lists : List (List ℕ)) (was mid : List Literal) (done : ℕ) (r : Option ℕ) → IsReady cs lists was done → Appends cs was mid → is_some r ≡ true → Units cs mid r → Propagated cs cs lists lists was mid r
units-false cs lists was mid done r i a h u = record { rewatched = same-all was cs; appends = a; long = refl; listed = i.listed; finishes = some-finishes cs mid r h u }

short-guarded : (t c : List Literal) → length c < 2 → satisfied t c ≡ true → guarded t c ≡ true
short-guarded t [] h s = absurd (true≢false (sym s))
short-guarded t (a ∷ []) h s = elim (or_cases (has t a) false s) [
  | inl e ↦ e
  | inr e ↦ absurd (true≢false (sym e))
]
short-guarded t (a ∷ b ∷ c) h s = absurd (omega (arith, h))

stops-finishes : (old new : List (List Literal)) (was mid is : List Literal) (r u : Option ℕ) → is_some u ≡ false → Units old mid u → AreRewatched mid old new → Appends old mid is → Stops new is r → Finishes new is r
stops-finishes old new was mid is r (Some k) h us w a s = absurd (true≢false h)
stops-finishes old new was mid is (Some k) None h us w a s = s
stops-finishes old new was mid is None None h us w a s = λ k lt. elim (two (length (clause_at new k))) [
  | inl big ↦ s k big
  | inr small ↦ short-guarded is (clause_at new k) small
      (satisfied-same is (clause_at old k) (clause_at new k) (w.each k).same
      (satisfied-more mid is (clause_at old k) (λ x h. appends-has old mid is x a h)
      (us k (subst (λ (z : ℕ). k < z) w.long lt) (subst (λ (z : ℕ). z < 2) (w.each k).long small))))
]
  where
    two : (n : ℕ) → (2 ≤ n) ⊎ (n < 2)
    two zero = inr (omega arith)
    two (suc zero) = inr (omega arith)
    two (suc (suc n)) = inl (omega arith)

pub all-propagated : (old new : List (List Literal)) (before after : List (List ℕ)) (was mid is : List Literal) (done : ℕ) (u r : Option ℕ) → IsReady old before was done → Appends old was mid → is_some u ≡ false → Units old mid u → Passes old new before after mid is × Stops new is r → Propagated old new before after was is r
all-propagated old new before after was mid is done u r i a h us p =
    let q = passes-on old old new before before after was mid is (units-passes old before was mid done i a) p.0 in
    record { rewatched = q.rewatched; appends = q.appends; long = q.long; listed = q.listed; finishes = stops-finishes old new was mid is r u h us p.0.rewatched p.0.appends p.1 }

-- ---- in the words of a solver

-- a clause whose set of literals is guarded
same-rests : (t c d : List Literal) → IsConsistent t → HasSame c d → watches_differ d ≡ true → guarded t d ≡ true → rests t c ≡ true
same-rests t c [] ok s w g = absurd (true≢false (sym g))
same-rests t c (a ∷ []) ok s w g = satisfied-rests t c ok (satisfied-same t (a ∷ []) c (back s) (or_left (has t a) false g))
  where
    back : {d : List Literal} → HasSame c d → HasSame d c
    back h = record { each = λ x. sym (h.each x) }
same-rests t c (a ∷ b ∷ d) ok s w g =
    elim (or_cases (not (is_false t a) && not (is_false t b)) (satisfied t (a ∷ b ∷ d)) g) [
      | inl n ↦
          (let p = and_parts (not (is_false t a)) (not (is_false t b)) n in
          ap (rests_at t) (two-open (open_literals t c) a b
          (open-has t c a (s.each a ∙ or_left (same_literal a a) (has (b ∷ d) a) (same_literal-refl a)) (not-true (is_false t a) p.0))
          (open-has t c b (s.each b ∙ or_right (same_literal b a) (has (b ∷ d) b) (or_left (same_literal b b) (has d b) (same_literal-refl b))) (not-true (is_false t b) p.1))
          (not-true (same_literal a b) w)))
      | inr k ↦ satisfied-rests t c ok (satisfied-same t (a ∷ b ∷ d) c (record { each = λ x. sym (s.each x) }) k)
    ]

all-rest : (t : List Literal) (cs : List (List Literal)) → ((k : ℕ) → k < length cs → rests t (clause_at cs k) ≡ true) → is_quiet cs t ≡ true
all-rest t [] f = refl
all-rest t (c ∷ cs) f = and_from (rests t c) (is_quiet cs t) (f 0 (omega arith)) (all-rest t cs (λ k h. f (suc k) (omega (arith, h))))

pub finished-quiet : (cs stored : List (List Literal)) (t : List Literal) → IsConsistent t → SameClauses cs stored → ((k : ℕ) → IsDistinct (clause_at stored k)) → Finishes stored t None → is_quiet cs t ≡ true
finished-quiet cs stored t ok s d f =
    all-rest t cs (λ k h. same-rests t (clause_at cs k) (clause_at stored k) ok (s.each k) (distinct-differ (clause_at stored k) (d k)) (f k (subst (λ (z : ℕ). k < z) (sym s.long) h)))

false-same : (t c d : List Literal) → HasSame c d → falsifies t d ≡ true → reading_of t c ≡ False
false-same t c d s f =
    ap reading_of_open (falsified t c (all-from (λ x. has t (complement x)) c (λ x h. all-has (λ y. has t (complement y)) d x f (sym (s.each x) ∙ h))))

pub same-on : (cs old new : List (List Literal)) (t : List Literal) → SameClauses cs old → AreRewatched t old new → SameClauses cs new
same-on cs old new t s r = record {
  long = r.long ∙ s.long;
  each = λ k. record { each = λ x. (s.each k).each x ∙ (r.each k).same.each x };
}

pub same-none : (cs : List (List Literal)) → SameClauses cs cs
same-none cs = record { long = refl; each = λ k. record { each = λ x. refl } }

pub same-then : (a b c : List (List Literal)) → SameClauses a b → SameClauses b c → SameClauses a c
same-then a b c p q = record { long = q.long ∙ p.long; each = λ k. record { each = λ x. (p.each k).each x ∙ (q.each k).each x } }

-- ---- the solver

asserted-all : (cs stored : List (List Literal)) (t ls : List Literal) → SameClauses cs stored → AreAsserted stored t ls → AreAsserted cs t ls
asserted-all cs stored t [] s a = a
asserted-all cs stored t (l ∷ ls) s a = (
  record {
    new = a.0.new;
    free = a.0.free;
    clause = a.0.clause;
    holds = (s.each a.0.clause).each l ∙ a.0.holds;
    asserted = all-from (λ x. has t (complement x) || same_literal l x) (clause_at cs a.0.clause) (λ x h. all-has (λ y. has t (complement y) || same_literal l y) (clause_at stored a.0.clause) x a.0.asserted (sym ((s.each a.0.clause).each x) ∙ h));
  },
  asserted-all cs stored (t ++ l ∷ []) ls s a.1,
)

appends-same : (cs stored : List (List Literal)) (old new : List Literal) → SameClauses cs stored → Appends stored old new → Appends cs old new
appends-same cs stored old new s a = record { added = a.added; appended = a.appended; asserted = asserted-all cs stored old a.added s a.asserted }

pub search-forced : (cs stored : List (List Literal)) (was is : List Literal) → SameClauses cs stored → Appends stored was is → Propagates cs was is
search-forced cs stored was is s a = appends-propagates cs was is (appends-same cs stored was is s a)

pub search-quiet : (d : Proof) (stored : List (List Literal)) (lists : List (List ℕ)) (t : List Literal) (done : ℕ) → SameClauses (clauses_of d) stored → IsReady stored lists t done → IsConsistent t → Finishes stored t None → EndsAt d t None
search-quiet d stored lists t done s r ok f = finished-quiet (clauses_of d) stored t ok s r.distinct f

pub search-false : (d : Proof) (stored : List (List Literal)) (t : List Literal) (k n : ℕ) → IsPlain d → SameClauses (clauses_of d) stored → n ≡ suc k → Finishes stored t (Some k) → EndsAt d t (Some n)
search-false d stored t k n p s e f = (
  clause_at (clauses_of d) k,
  subst (λ (z : ℕ). live_clause d z ≡ Some (clause_at (clauses_of d) k)) (sym e) (plain-look d p k (subst (λ (z : ℕ). k < z) s.long f.0)),
  false-same t (clause_at (clauses_of d) k) (clause_at stored k) (s.each k) f.1,
)

pub start-plain : (cnf : Cnf) → IsPlain (start_of cnf)
start-plain cnf = record { ids = refl; live = ap (λ (n : ℕ). replicate n true) (none (length cnf.clauses)) }
  where
    none : (n : ℕ) → n ≡ n + 0
    none n = omega arith

pub forced-view : (s : Solving) (d : Proof) (was is : List Literal) → record { derivation = d; trail = was } ≡ s → Propagates (clauses_of d) was is → Propagates (clauses_of s.derivation) s.trail is
forced-view s d was is e p = subst (λ (x : Solving). Propagates (clauses_of x.derivation) x.trail is) e p

pub ends-view : (s : Solving) (d : Proof) (was is : List Literal) (r : Option ℕ) → record { derivation = d; trail = was } ≡ s → EndsAt d is r → EndsAt s.derivation is r
ends-view s d was is r e p = subst (λ (x : Solving). EndsAt x.derivation is r) e p
