-- A lemma that passes the check keeps the live clauses satisfiable: an assignment that makes them true is
-- one of the lemma too, or is after its pivot is made true.
use Rattle.std.proofs.Common.{◌≡◌, ℕ, ◌==◌, Bool, true, false, not, cond, ◌&&◌, List, [], ◌∷◌, refl, sym, ◌∙◌, ap, inl, inr, Option, Some, None, Result, Ok, Err, map}
use Rattle.std.specs.Prelude.{ℤ}
use Rattle.std.specs.List.{list_any, find}
use Rattle.std.proofs.lemmas.Bool.{cases_Bool, or_left, or_right, or_cases, or_parts, true≢false, eqb-true, eq-eqb}
use Rattle.knox_cnf.specs.Literals.{Literal, literal, complement, same_sign, same_literal, has}
use Rattle.knox_cnf.specs.Formulas.{literal_true, clause_true}
use Rattle.lrat_check.specs.declared.step.Step.{Step}
use Rattle.lrat_check.specs.Marks.{all_with_true}
use Rattle.lrat_check.specs.Hints.{after_hints, is_tautology}
use Rattle.lrat_check.proofs.Sound.{all_true, member-true, any-implies, complements-true, all-with-true, Holds, hints-hold}
use Rattle.rat_check.specs.declared.rat_step.RatStep.{RatStep}
use Rattle.rat_check.specs.Groups.{Group, parts_of, has_group}
use Rattle.rat_check.specs.Rat.{others, group_ended, group_shown, group_about, group_answer, first_then, groups_answer, holds_in, is_uncovered, covered, by_pivot, after_lead, check}
use Rattle.rat_check.specs.Soundness.{AllTrue}

-- ---- an assignment with one literal made true

abbrev with_literal : (ℕ → Bool) → Literal → ℕ → Bool
with_literal v l n = cond (n == l.var) l.positive (v n)

signed-true : (v : ℕ → Bool) (n : ℕ) (p : Bool) → v n ≡ p → literal_true v (literal n p) ≡ true
signed-true v n true e = e
signed-true v n false e = ap not e

made-true : (v : ℕ → Bool) (l : Literal) → literal_true (with_literal v l) l ≡ true
made-true v l = signed-true (with_literal v l) l.var l.positive (rw (eq-eqb l.var l.var refl) refl)

not-true : (b : Bool) → not b ≡ true → b ≡ false
not-true true e = sym e
not-true false e = refl

true-value : (v : ℕ → Bool) (n : ℕ) (p : Bool) → literal_true v (literal n p) ≡ true → v n ≡ p
true-value v n true e = e
true-value v n false e = not-true (v n) e

sign-kept : (a b : Bool) → same_sign (not b) a ≡ false → b ≡ a
sign-kept true true e = refl
sign-kept true false e = absurd (true≢false e)
sign-kept false true e = absurd (true≢false e)
sign-kept false false e = refl

other-true : (v : ℕ → Bool) (l x : Literal) → same_literal (complement l) x ≡ false → literal_true v x ≡ true → literal_true (with_literal v l) x ≡ true
other-true v l x ne h =
    elim (cases_Bool (x.var == l.var)) [
      | inl e ↦
          (let same : l.var ≡ x.var = sym (eqb-true x.var l.var e) in
          let sign : same_sign (not l.positive) x.positive ≡ false = sym (ap (λ b. b && same_sign (not l.positive) x.positive) (eq-eqb l.var x.var same)) ∙ ne in
          signed-true (with_literal v l) x.var x.positive (rw e (sign-kept x.positive l.positive sign)))
      | inr e ↦ signed-true (with_literal v l) x.var x.positive (rw e (true-value v x.var x.positive h))
    ]

others-step : (v : ℕ → Bool) (l x : Literal) (c : List Literal) (b : Bool) → same_literal (complement l) x ≡ b → (clause_true v (others (complement l) c) ≡ true → clause_true (with_literal v l) c ≡ true) → clause_true v (cond (not b) (x ∷ others (complement l) c) (others (complement l) c)) ≡ true → clause_true (with_literal v l) (x ∷ c) ≡ true
others-step v l x c true e k h = or_right (literal_true (with_literal v l) x) (clause_true (with_literal v l) c) (k h)
others-step v l x c false e k h =
    elim (or_cases (literal_true v x) (clause_true v (others (complement l) c)) h) [
      | inl t ↦ or_left (literal_true (with_literal v l) x) (clause_true (with_literal v l) c) (other-true v l x e t)
      | inr t ↦ or_right (literal_true (with_literal v l) x) (clause_true (with_literal v l) c) (k t)
    ]

-- a clause one of whose other literals is true
others-true : (v : ℕ → Bool) (l : Literal) (c : List Literal) → clause_true v (others (complement l) c) ≡ true → clause_true (with_literal v l) c ≡ true
others-true v l [] h = h
others-true v l (x ∷ c) h = others-step v l x c (same_literal (complement l) x) refl (others-true v l c) h

-- a clause without the pivot's complement has no other literals
has-cons : (q x : Literal) (c : List Literal) → has (x ∷ c) q ≡ false → (same_literal q x ≡ false) × (has c q ≡ false)
has-cons q x c e = or_parts (same_literal q x) (has c q) e

others-all : (q : Literal) (c : List Literal) → has c q ≡ false → others q c ≡ c
others-all q [] e = refl
others-all q (x ∷ c) e =
    let p = has-cons q x c e in
    ap (λ b. cond (not b) (x ∷ others q c) (others q c)) p.0 ∙ ap (λ d. x ∷ d) (others-all q c p.1)

-- ---- groups

ended-other : (v : ℕ → Bool) (r : Result (List Literal) (Result (Unit {0}) Step)) → Holds v r → group_ended r ≡ Ok tt → ⊥
ended-other v (Ok u) h e = cc
ended-other v (Err (Ok x)) h e = h
ended-other v (Err (Err s)) h e = cc

cond-false : (b : Bool) (r : Result (Unit {0}) RatStep) → cond b (Ok tt) r ≡ Ok tt → b ≡ false → r ≡ Ok tt
cond-false true r e k = absurd (true≢false k)
cond-false false r e k = e

-- a group shows that another literal of its clause is true
shown-other : (v : ℕ → Bool) (clause : ℕ → Option (List Literal)) → AllTrue v clause → (q : Literal) (t c : List Literal) (hs : List ℤ) → all_true v t ≡ true → group_shown clause q t hs c ≡ Ok tt → clause_true v (others q c) ≡ true
shown-other v clause k q t c hs a o =
    elim (cases_Bool (clause_true v (others q c))) [
      | inl e ↦ e
      | inr e ↦
          (elim (cases_Bool (list_any (has t) (others q c))) [
            | inl b ↦ any-implies (has t) (literal_true v) (λ x. member-true v t x a) (others q c) b
            | inr b ↦
                (let u = all_with_true t (map complement (others q c)) in
                let all : all_true v u ≡ true = all-with-true v t (map complement (others q c)) a (complements-true v (others q c) e) in
                absurd (ended-other v (after_hints clause u hs) (hints-hold v clause k u hs all) (cond-false (list_any (has t) (others q c)) (group_ended (after_hints clause u hs)) o b)))
          ])
    ]

cond-second : (b : Bool) (r : Result (Unit {0}) RatStep) (s : RatStep) → cond b r (Err s) ≡ Ok tt → r ≡ Ok tt
cond-second true r s e = e
cond-second false r s e = absurd (cc)

about-other : (v : ℕ → Bool) (clause : ℕ → Option (List Literal)) → AllTrue v clause → (q : Literal) (t : List Literal) (g : Group) (o : Option (List Literal)) → all_true v t ≡ true → group_about clause q t g o ≡ Ok tt → (c : List Literal) → o ≡ Some c → clause_true v (others q c) ≡ true
about-other v clause k q t g None a e c i = absurd (cc)
about-other v clause k q t g (Some d) a e c i =
    let same : d ≡ c = cc in
    ap (λ x. clause_true v (others q x)) (sym same) ∙ shown-other v clause k q t d g.hints a (cond-second (has d q) (group_shown clause q t g.hints d) _ e)

first_then-parts : (r s : Result (Unit {0}) RatStep) → first_then r s ≡ Ok tt → (r ≡ Ok tt) × (s ≡ Ok tt)
first_then-parts (Ok x) s e = (refl, e)
first_then-parts (Err x) s e = absurd (cc)

-- .. each of them
groups-other : (v : ℕ → Bool) (clause : ℕ → Option (List Literal)) → AllTrue v clause → (q : Literal) (t : List Literal) (gs : List Group) → all_true v t ≡ true → groups_answer clause q t gs ≡ Ok tt → (id : ℕ) (c : List Literal) → clause id ≡ Some c → has_group gs id ≡ true → clause_true v (others q c) ≡ true
groups-other v clause k q t [] a o id c e h = absurd (true≢false (sym h))
groups-other v clause k q t (g ∷ gs) a o id c e h =
    let p = first_then-parts (group_answer clause q t g) (groups_answer clause q t gs) o in
    elim (or_cases (g.id == id) (has_group gs id) h) [
      | inl i ↦ about-other v clause k q t g (clause g.id) a p.0 c (ap clause (eqb-true g.id id i) ∙ e)
      | inr i ↦ groups-other v clause k q t gs a p.1 id c e i
    ]

-- ---- the pivot

none-cond : (b : Bool) (i : ℕ) (o : Option ℕ) → cond b (Some i) o ≡ None → (b ≡ false) × (o ≡ None)
none-cond true i o e = absurd (cc)
none-cond false i o e = (refl, e)

find-none : (p : ℕ → Bool) (ids : List ℕ) → find p ids ≡ None → (id : ℕ) → list_any (λ i. i == id) ids ≡ true → p id ≡ false
find-none p [] e id h = absurd (true≢false (sym h))
find-none p (i ∷ ids) e id h =
    let f = none-cond (p i) i (find p ids) e in
    elim (or_cases (i == id) (list_any (λ j. j == id) ids) h) [
      | inl s ↦ ap p (sym (eqb-true i id s)) ∙ f.0
      | inr s ↦ find-none p ids f.1 id s
    ]

covered-none : (gs : List Group) (o : Option ℕ) → covered gs o ≡ Ok tt → o ≡ None
covered-none gs None e = refl
covered-none gs (Some i) e = absurd (cc)

grouped : (b g : Bool) → (b && not g) ≡ false → b ≡ true → g ≡ true
grouped true true e h = refl
grouped true false e h = absurd (true≢false e)
grouped false g e h = absurd (true≢false (sym h))

-- every live clause has an id among these
abbrev pub AreNamed : (ℕ → Option (List Literal)) → List ℕ → Type 0
AreNamed clause ids = (id : ℕ) (c : List Literal) → clause id ≡ Some c → list_any (λ i. i == id) ids ≡ true

clause-kept : (v : ℕ → Bool) (clause : ℕ → Option (List Literal)) (ids : List ℕ) → AllTrue v clause → AreNamed clause ids → (l : Literal) (t : List Literal) (gs : List Group) → all_true v t ≡ true → groups_answer clause (complement l) t gs ≡ Ok tt → find (is_uncovered clause (complement l) gs) ids ≡ None → AllTrue (with_literal v l) clause
clause-kept v clause ids k n l t gs a o f id c e =
    others-true v l c (elim (cases_Bool (has c (complement l))) [
      | inl h ↦
          (let not_left : is_uncovered clause (complement l) gs id ≡ false = find-none (is_uncovered clause (complement l) gs) ids f id (n id c e) in
          let holds : holds_in (clause id) (complement l) ≡ true = ap (λ d. holds_in d (complement l)) e ∙ h in
          groups-other v clause k (complement l) t gs a o id c e (grouped (holds_in (clause id) (complement l)) (has_group gs id) not_left holds))
      | inr h ↦ ap (clause_true v) (others-all (complement l) c h) ∙ k id c e
    ])

-- an assignment for the lemma and all live clauses
abbrev pub Together : (ℕ → Option (List Literal)) → List Literal → Type 0
Together clause lits = (w : ℕ → Bool) × AllTrue w clause × (clause_true w lits ≡ true)

pivot-sound : (v : ℕ → Bool) (clause : ℕ → Option (List Literal)) (ids : List ℕ) → AllTrue v clause → AreNamed clause ids → (lits : List Literal) (gs : List Group) (t : List Literal) → all_true v t ≡ true → by_pivot clause ids lits gs t ≡ Ok tt → Together clause lits
pivot-sound v clause ids k n [] gs t a o = absurd (cc)
pivot-sound v clause ids k n (l ∷ ls) gs t a o =
    let p = first_then-parts (groups_answer clause (complement l) t gs) (covered gs (find (is_uncovered clause (complement l) gs) ids)) o in
    let f : find (is_uncovered clause (complement l) gs) ids ≡ None = covered-none gs (find (is_uncovered clause (complement l) gs) ids) p.1 in
    (with_literal v l, clause-kept v clause ids k n l t gs a p.0 f, or_left (literal_true (with_literal v l) l) (clause_true (with_literal v l) ls) (made-true v l))

lead-sound : (v : ℕ → Bool) (clause : ℕ → Option (List Literal)) (ids : List ℕ) → AllTrue v clause → AreNamed clause ids → (lits : List Literal) (gs : List Group) (r : Result (List Literal) (Result (Unit {0}) Step)) → Holds v r → after_lead clause ids lits gs r ≡ Ok tt → Together clause lits
lead-sound v clause ids k n lits gs (Ok t) h o = pivot-sound v clause ids k n lits gs t h o
lead-sound v clause ids k n lits gs (Err (Ok x)) h o = absurd h
lead-sound v clause ids k n lits gs (Err (Err s)) h o = absurd (cc)

pub check-sound : (v : ℕ → Bool) (clause : ℕ → Option (List Literal)) (ids : List ℕ) → AllTrue v clause → AreNamed clause ids → (lits : List Literal) (hs : List ℤ) → check clause ids lits hs ≡ Ok tt → Together clause lits
check-sound v clause ids k n lits hs o =
    elim (cases_Bool (clause_true v lits)) [
      | inl e ↦ (v, k, e)
      | inr e ↦
          (let u = all_with_true [] (map complement lits) in
          let false_now : all_true v (map complement lits) ≡ true = complements-true v lits e in
          elim (cases_Bool (is_tautology lits)) [
            | inl b ↦ absurd (true≢false (sym (any-implies (has (map complement lits)) (literal_true v) (λ x. member-true v (map complement lits) x false_now) lits b) ∙ e))
            | inr b ↦
                lead-sound v clause ids k n lits (parts_of hs).groups (after_hints clause u (parts_of hs).lead)
                (hints-hold v clause k u (parts_of hs).lead (all-with-true v [] (map complement lits) refl false_now))
                (cond-false (is_tautology lits) (after_lead clause ids lits (parts_of hs).groups (after_hints clause u (parts_of hs).lead)) o b)
          ])
    ]
