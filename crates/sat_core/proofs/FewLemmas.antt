-- New lemmas are few: over so many variables there are only so many sets of literals without a complementary pair.
use Rattle.std.proofs.Common.{◌≡◌, ℕ, zero, suc, ◌+◌, ◌^◌, ◌<◌, ◌≤◌, Bool, true, false, not, ◌&&◌, ◌||◌, ◌==◌, List, [], ◌∷◌, ◌++◌, append_assoc, length, length-append, map, nat_lt, refl, sym, ◌∙◌, ap, subst, arith, inl, inr, if◌then◌else◌}
use Rattle.std.specs.Prelude.{nat_le}
use Rattle.std.specs.List.{list_all, list_any}
use Rattle.std.proofs.lemmas.Bool.{and_parts, and_from, or_cases, or_left, or_right, cases_eq, true≢false, both_ways, not_from_false, not-true, false_from_ne_true, ltb-true, lt-ltb, leb-true, eqb-true}
use Rattle.knox_cnf.specs.Literals.{Literal, literal, complement, has}
use Rattle.sat_core.specs.Newness.{is_within, contains_none, has_no_pair, is_over, is_new, are_new}
use Rattle.knox_cnf.specs.declared.formula.Cnf.{Cnf}
use Rattle.lrat_check.specs.Derivations.{Proof, lits_of, is_empty}
use Rattle.sat_core.specs.Answers.{IsSpent}
use Rattle.sat_core.proofs.SolvingLemmas.{new-push}
use Rattle.std.proofs.lemmas.List.{length-map}
use Rattle.sat_core.proofs.Members.{all-has, all-from}

-- each literal of e whose variable is at most n is in c
abbrev within_to : ℕ → List Literal → List Literal → Bool
within_to n e c = list_all (λ (x : Literal). nat_lt n x.var || has c x) e

-- no clause is within one that comes later, as far as variables up to n go
abbrev apart : ℕ → List (List Literal) → Bool
apart n [] = true
apart n (m ∷ ms) = list_all (λ c. not (within_to n m c)) ms && apart n ms

-- without a pair, and over variables from 1
abbrev IsPlainSet : List Literal → Type 0
IsPlainSet c = (has_no_pair c ≡ true) × ((x : Literal) → has c x ≡ true → 1 ≤ x.var)

abbrev ArePlainSets : List (List Literal) → Type 0
ArePlainSets [] = Unit {0}
ArePlainSets (m ∷ ms) = IsPlainSet m × ArePlainSets ms

-- whether the variable is true, false or absent
abbrev class : ℕ → List Literal → ℕ
class v c = if has c (literal v true) then 1 else (if has c (literal v false) then 2 else 0)

abbrev of_class : ℕ → ℕ → List (List Literal) → List (List Literal)
of_class v k [] = []
of_class v k (m ∷ ms) = if class v m == k then m ∷ of_class v k ms else of_class v k ms

class-has : (v : ℕ) (e c : List Literal) (p : Bool) → has_no_pair e ≡ true → class v e ≡ class v c → has e (literal v p) ≡ true → has c (literal v p) ≡ true
class-has v e c true n k h = yes (has e (literal v true)) (has c (literal v true)) (has e (literal v false)) (has c (literal v false)) h k
  where
    yes : (a b x y : Bool) → a ≡ true → ◌≡◌ {A = ℕ} (if a then 1 else (if x then 2 else 0)) (if b then 1 else (if y then 2 else 0)) → b ≡ true
    yes true true x y h k = refl
    yes true false x true h k = absurd (omega (arith, k))
    yes true false x false h k = absurd (omega (arith, k))
    yes false b x y h k = absurd (true≢false (sym h))
class-has v e c false n k h =
    no (has e (literal v true)) (has c (literal v true)) (has e (literal v false)) (has c (literal v false))
    (not-true (has e (literal v true)) (all-has (λ x. not (has e (complement x))) e (literal v false) n h)) h k
  where
    no : (a b x y : Bool) → a ≡ false → x ≡ true → ◌≡◌ {A = ℕ} (if a then 1 else (if x then 2 else 0)) (if b then 1 else (if y then 2 else 0)) → y ≡ true
    no true b x y g h k = absurd (true≢false g)
    no false b false y g h k = absurd (true≢false (sym h))
    no false true true y g h k = absurd (omega (arith, k))
    no false false true true g h k = refl
    no false false true false g h k = absurd (omega (arith, k))

-- clauses of one class at the last variable differ at those before it
class-apart : (n : ℕ) (e c : List Literal) → has_no_pair e ≡ true → class (suc n) e ≡ class (suc n) c → within_to n e c ≡ true → within_to (suc n) e c ≡ true
class-apart n e c p k w = all-from (λ (x : Literal). nat_lt (suc n) x.var || has c x) e (λ x h.
    elim (or_cases (nat_lt n x.var) (has c x) (all-has (λ (y : Literal). nat_lt n y.var || has c y) e x w h)) [
      | inl lt ↦ elim (cases_eq x.var (suc n)) [
        | inl same ↦ or_right (nat_lt (suc n) x.var) (has c x) (at x.var x.positive same h)
        | inr ne ↦ (let l : n < x.var = ltb-true n x.var lt in or_left (nat_lt (suc n) x.var) (has c x) (lt-ltb (suc n) x.var (omega (arith, l, ne))))
      ]
      | inr in_c ↦ or_right (nat_lt (suc n) x.var) (has c x) in_c
    ])
  where
    at : (v : ℕ) (q : Bool) → v ≡ suc n → has e (literal v q) ≡ true → has c (literal v q) ≡ true
    at v q same h = subst (λ (i : ℕ). has c (literal i q) ≡ true) (sym same) (class-has (suc n) e c q p k (subst (λ (i : ℕ). has e (literal i q) ≡ true) same h))

class-all : (n k : ℕ) (m : List Literal) (ms : List (List Literal)) → has_no_pair m ≡ true → class (suc n) m ≡ k → list_all (λ c. not (within_to (suc n) m c)) ms ≡ true → list_all (λ c. not (within_to n m c)) (of_class (suc n) k ms) ≡ true
class-all n k m [] p e a = refl
class-all n k m (c ∷ ms) p e a =
    let q = and_parts (not (within_to (suc n) m c)) (list_all (λ c. not (within_to (suc n) m c)) ms) a in
    choose (class (suc n) c == k) refl q.0 (class-all n k m ms p e q.1)
  where
    choose : (b : Bool) → (class (suc n) c == k) ≡ b → not (within_to (suc n) m c) ≡ true → list_all (λ c. not (within_to n m c)) (of_class (suc n) k ms) ≡ true → list_all (λ c. not (within_to n m c)) (if b then c ∷ of_class (suc n) k ms else of_class (suc n) k ms) ≡ true
    choose false h far rest = rest
    choose true h far rest =
        and_from (not (within_to n m c)) (list_all (λ c. not (within_to n m c)) (of_class (suc n) k ms))
        (not_from_false (within_to n m c) (false_from_ne_true (within_to n m c) (λ w. both_ways (within_to (suc n) m c) (not-true (within_to (suc n) m c) far) (class-apart n m c p (e ∙ sym (eqb-true (class (suc n) c) k h)) w)))) rest

class-of-apart : (n k : ℕ) (ms : List (List Literal)) → ArePlainSets ms → apart (suc n) ms ≡ true → apart n (of_class (suc n) k ms) ≡ true
class-of-apart n k [] p a = refl
class-of-apart n k (m ∷ ms) p a =
    let q = and_parts (list_all (λ c. not (within_to (suc n) m c)) ms) (apart (suc n) ms) a in
    choose (class (suc n) m == k) refl q.0 (class-of-apart n k ms p.1 q.1)
  where
    choose : (b : Bool) → (class (suc n) m == k) ≡ b → list_all (λ c. not (within_to (suc n) m c)) ms ≡ true → apart n (of_class (suc n) k ms) ≡ true → apart n (if b then m ∷ of_class (suc n) k ms else of_class (suc n) k ms) ≡ true
    choose false h all rest = rest
    choose true h all rest = and_from (list_all (λ c. not (within_to n m c)) (of_class (suc n) k ms)) (apart n (of_class (suc n) k ms)) (class-all n k m ms p.0.0 (eqb-true (class (suc n) m) k h) all) rest

class-plain : (v k : ℕ) (ms : List (List Literal)) → ArePlainSets ms → ArePlainSets (of_class v k ms)
class-plain v k [] p = tt
class-plain v k (m ∷ ms) p = choose (class v m == k) (class-plain v k ms p.1)
  where
    choose : (b : Bool) → ArePlainSets (of_class v k ms) → ArePlainSets (if b then m ∷ of_class v k ms else of_class v k ms)
    choose false rest = rest
    choose true rest = (p.0, rest)

class-count : (v : ℕ) (ms : List (List Literal)) → length ms ≤ length (of_class v 0 ms) + (length (of_class v 1 ms) + length (of_class v 2 ms))
class-count v [] = omega arith
class-count v (m ∷ ms) = choose (has m (literal v true)) (has m (literal v false)) (class-count v ms)
  where
    z : List (List Literal)
    z = of_class v 0 ms

    o : List (List Literal)
    o = of_class v 1 ms

    w : List (List Literal)
    w = of_class v 2 ms

    choose : (a b : Bool) → length ms ≤ length (of_class v 0 ms) + (length (of_class v 1 ms) + length (of_class v 2 ms)) → suc (length ms) ≤ length (if (if a then 1 else (if b then 2 else 0)) == 0 then m ∷ of_class v 0 ms else of_class v 0 ms) + (length (if (if a then 1 else (if b then 2 else 0)) == 1 then m ∷ of_class v 1 ms else of_class v 1 ms) + length (if (if a then 1 else (if b then 2 else 0)) == 2 then m ∷ of_class v 2 ms else of_class v 2 ms))
    choose true b h = omega (arith, h)
    choose false true h = omega (arith, h)
    choose false false h = omega (arith, h)

-- at no variable all sets are the same
none-apart : (ms : List (List Literal)) → ArePlainSets ms → apart 0 ms ≡ true → length ms ≤ 1
none-apart [] p a = omega arith
none-apart (m ∷ []) p a = omega arith
none-apart (m ∷ c ∷ ms) p a =
    let q = and_parts (list_all (λ c. not (within_to 0 m c)) (c ∷ ms)) (apart 0 (c ∷ ms)) a in
    let r = and_parts (not (within_to 0 m c)) (list_all (λ c. not (within_to 0 m c)) ms) q.0 in
    absurd (both_ways (within_to 0 m c) (not-true (within_to 0 m c) r.0) (all-from (λ (x : Literal). nat_lt 0 x.var || has c x) m (λ x h. or_left (nat_lt 0 x.var) (has c x) (lt-ltb 0 x.var (p.0.1 x h)))))

apart-few : (n : ℕ) (ms : List (List Literal)) → ArePlainSets ms → apart n ms ≡ true → length ms ≤ 3 ^ n
apart-few zero ms p a = none-apart ms p a
apart-few (suc n) ms p a =
    let f = λ (k : ℕ). apart-few n (of_class (suc n) k ms) (class-plain (suc n) k ms p) (class-of-apart n k ms p a) in
    omega (arith, class-count (suc n) ms, f 0, f 1, f 2, power n)
  where
    power : (n : ℕ) → 3 ^ suc n ≡ 3 ^ n + (3 ^ n + 3 ^ n)
    power n = omega arith

-- ---- new lemmas are such sets

over-within : (n : ℕ) (e c : List Literal) → is_over n e ≡ true → within_to n e c ≡ true → is_within e c ≡ true
over-within n e c o w = all-from (has c) e (λ x h. elim (or_cases (nat_lt n x.var) (has c x) (all-has (λ (y : Literal). nat_lt n y.var || has c y) e x w h)) [
  | inl lt ↦
      (let l : n < x.var = ltb-true n x.var lt in
      let b : x.var ≤ n = leb-true x.var n (and_parts (nat_le 1 x.var) (nat_le x.var n) (all-has (λ (y : Literal). nat_le 1 y.var && nat_le y.var n) e x o h)).1 in
      absurd (omega (arith, l, b)))
  | inr m ↦ m
])

new-plain : (n : ℕ) (before ms : List (List Literal)) → are_new n before ms ≡ true → ArePlainSets ms
new-plain n before [] a = tt
new-plain n before (m ∷ ms) a =
    let p = and_parts (is_new n before m) (are_new n (before ++ m ∷ []) ms) a in
    let q = and_parts (contains_none before m) (has_no_pair m && is_over n m) p.0 in
    let r = and_parts (has_no_pair m) (is_over n m) q.1 in
    ((r.0, λ x h. leb-true 1 x.var (and_parts (nat_le 1 x.var) (nat_le x.var n) (all-has (λ (y : Literal). nat_le 1 y.var && nat_le y.var n) m x r.1 h)).0), new-plain n (before ++ m ∷ []) ms p.1)

-- what contains none of some clauses contains none of the first of them
contains-each : (before : List (List Literal)) (e : List Literal) (rest : List (List Literal)) (c : List Literal) → contains_none (before ++ e ∷ rest) c ≡ true → is_within e c ≡ false
contains-each [] e rest c n = false_from_ne_true (is_within e c) (λ w. both_ways (list_any (λ d. is_within d c) (e ∷ rest)) (not-true (list_any (λ d. is_within d c) (e ∷ rest)) n) (or_left (is_within e c) (list_any (λ d. is_within d c) rest) w))
contains-each (b ∷ before) e rest c n = contains-each before e rest c
    (not_from_false (list_any (λ d. is_within d c) (before ++ e ∷ rest)) (false_from_ne_true (list_any (λ d. is_within d c) (before ++ e ∷ rest))
    (λ w. both_ways (list_any (λ d. is_within d c) (b ∷ (before ++ e ∷ rest))) (not-true (list_any (λ d. is_within d c) (b ∷ (before ++ e ∷ rest))) n) (or_right (is_within b c) (list_any (λ d. is_within d c) (before ++ e ∷ rest)) w))))

later-apart : (n : ℕ) (before : List (List Literal)) (m : List Literal) (rest ms : List (List Literal)) → is_over n m ≡ true → are_new n (before ++ m ∷ rest) ms ≡ true → list_all (λ c. not (within_to n m c)) ms ≡ true
later-apart n before m rest [] o a = refl
later-apart n before m rest (c ∷ ms) o a =
    let p = and_parts (is_new n (before ++ m ∷ rest) c) (are_new n ((before ++ m ∷ rest) ++ c ∷ []) ms) a in
    let q = and_parts (contains_none (before ++ m ∷ rest) c) (has_no_pair c && is_over n c) p.0 in
    and_from (not (within_to n m c)) (list_all (λ c. not (within_to n m c)) ms)
    (not_from_false (within_to n m c) (false_from_ne_true (within_to n m c) (λ w. both_ways (is_within m c) (contains-each before m rest c q.0) (over-within n m c o w))))
    (later-apart n before m (rest ++ c ∷ []) ms o (ap (λ b. are_new n b ms) (sym (append_assoc before (m ∷ rest) (c ∷ []))) ∙ p.1))

new-apart : (n : ℕ) (before ms : List (List Literal)) → are_new n before ms ≡ true → apart n ms ≡ true
new-apart n before [] a = refl
new-apart n before (m ∷ ms) a =
    let p = and_parts (is_new n before m) (are_new n (before ++ m ∷ []) ms) a in
    let q = and_parts (contains_none before m) (has_no_pair m && is_over n m) p.0 in
    let r = and_parts (has_no_pair m) (is_over n m) q.1 in
    and_from (list_all (λ c. not (within_to n m c)) ms) (apart n ms) (later-apart n before m [] ms r.1 p.1) (new-apart n (before ++ m ∷ []) ms p.1)

-- over so many variables there are no more new lemmas than sets without a pair
pub new-few : (n : ℕ) (before ms : List (List Literal)) → are_new n before ms ≡ true → length ms ≤ 3 ^ n
new-few n before ms a = apart-few n ms (new-plain n before ms a) (new-apart n before ms a)

-- the empty clause is new where no clause is empty
none-within : (es : List (List Literal)) → list_any is_empty es ≡ false → contains_none es [] ≡ true
none-within es h = not_from_false (list_any (λ e. is_within e []) es) (none es h)
  where
    none : (es : List (List Literal)) → list_any is_empty es ≡ false → list_any (λ e. is_within e []) es ≡ false
    none [] h = refl
    none ([] ∷ es) h = absurd (true≢false h)
    none ((x ∷ e) ∷ es) h = none es h

pub spent-few : (cnf : Cnf) (count : ℕ) (d : Proof) → d.cnf ≡ cnf → IsSpent cnf count d → count < 3 ^ cnf.vars
spent-few cnf count d e s =
    let open_clauses : list_any is_empty (cnf.clauses ++ map lits_of d.lemmas) ≡ false = ap (λ (f : Cnf). list_any is_empty (f.clauses ++ map lits_of d.lemmas)) (sym e) ∙ s.left_open in
    let few = new-few cnf.vars cnf.clauses (map lits_of d.lemmas ++ [] ∷ [])
    (new-push cnf.vars cnf.clauses (map lits_of d.lemmas) [] s.all_new (and_from (contains_none (cnf.clauses ++ map lits_of d.lemmas) []) true (none-within (cnf.clauses ++ map lits_of d.lemmas) open_clauses) refl)) in
    let long : length (map lits_of d.lemmas ++ [] ∷ []) ≡ length (map lits_of d.lemmas) + 1 = length-append (map lits_of d.lemmas) ([] ∷ []) in
    let same : length (map lits_of d.lemmas) ≡ length d.lemmas = length-map d.lemmas lits_of in
    let counted = s.count_is in
    omega (arith, few, long, same, counted)
