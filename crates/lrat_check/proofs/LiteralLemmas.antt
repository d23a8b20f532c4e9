-- Literals, and their numbers in the table and the set of marks.
use Rattle.std.proofs.Common.{◌≡◌, ℕ, ◌<◌, ◌≤◌, ◌==◌, Bool, true, false, ◌||◌, List, [], ◌∷◌, ◌++◌, length, refl, sym, ◌∙◌, ap, arith, get_or-set_other, get_or-set_same, inl, inr, ◌+◌, zero, suc, take, get_or, length-append}
use Rattle.std.specs.Prelude.{nat_lt}
use Rattle.std.proofs.lemmas.List.{take-append-le}
use Rattle.std.proofs.Math.Seq.{take-append_seam}
use Rattle.std.specs.Ordering.{nat_cmp}
use Rattle.std.specs.BTreeSet.{BTreeSet, Updates}
use Rattle.std.proofs.lemmas.Bool.{eqb-true, eq-eqb, and_parts, and_from, false_from_ne_true, cases_eq, cases_Bool, ltb-true, ltb-false}
use Rattle.std.specs.BTreeMap.{is_at}
use Rattle.std.specs.Cmp.{Equal-is}
use Rattle.std.proofs.lemmas.Map.Lookups.{exact_unsigned}
use Rattle.std.proofs.lemmas.List.Folds.{list_any-append}
use Rattle.std.proofs.Math.ListN.{set, length-set}
use Rattle.knox_cnf.specs.Literals.{Literal, literal, same_sign, same_literal, has}
use Rattle.lrat_check.specs.Marks.{index_of, IsEachOnce, Tell}

same_sign-true : (a b : Bool) → same_sign a b ≡ true → a ≡ b
same_sign-true true true e = refl
same_sign-true true false e = cc
same_sign-true false true e = cc
same_sign-true false false e = refl

same_sign-refl : (a : Bool) → same_sign a a ≡ true
same_sign-refl true = refl
same_sign-refl false = refl

pub same_literal-true : (a b : Literal) → same_literal a b ≡ true → a ≡ b
same_literal-true a b e =
    let p = and_parts (a.var == b.var) (same_sign a.positive b.positive) e in
    ap (λ n. literal n a.positive) (eqb-true a.var b.var p.0) ∙ ap (λ s. literal b.var s) (same_sign-true a.positive b.positive p.1)

pub same_literal-refl : (a : Literal) → same_literal a a ≡ true
same_literal-refl a = and_from (a.var == a.var) (same_sign a.positive a.positive) (eq-eqb a.var a.var refl) (same_sign-refl a.positive)

index_of-same : (m n : ℕ) (p q : Bool) → index_of (literal m p) ≡ index_of (literal n q) → literal m p ≡ literal n q
index_of-same m n true true e = let k : m ≡ n = omega arith in ap (λ x. literal x true) k
index_of-same m n true false e = absurd (omega arith)
index_of-same m n false true e = absurd (omega arith)
index_of-same m n false false e = let k : m ≡ n = omega arith in ap (λ x. literal x false) k

pub index_of-injective : (a b : Literal) → index_of a ≡ index_of b → a ≡ b
index_of-injective a b e = index_of-same a.var b.var a.positive b.positive e

or_false : (b : Bool) → (b || false) ≡ b
or_false true = refl
or_false false = refl

or_true : (b : Bool) → (b || true) ≡ true
or_true true = refl
or_true false = refl

pub has-push : (t : List Literal) (x l : Literal) → has (t ++ x ∷ []) l ≡ (has t l || same_literal l x)
has-push t x l = list_any-append (same_literal l) t (x ∷ []) ∙ ap (λ b. has t l || b) (or_false (same_literal l x))

pub has-push_same : (t : List Literal) (x : Literal) → has (t ++ x ∷ []) x ≡ true
has-push_same t x = has-push t x x ∙ ap (λ b. has t x || b) (same_literal-refl x) ∙ or_true (has t x)

pub has-push_other : (t : List Literal) (x l : Literal) → (index_of l ≡ index_of x → ⊥) → has (t ++ x ∷ []) l ≡ has t l
has-push_other t x l ne =
    has-push t x l ∙ ap (λ b. has t l || b) (false_from_ne_true (same_literal l x) (λ e. ne (ap index_of (same_literal-true l x e)))) ∙ or_false (has t l)

apart : (n i j : ℕ) → i < n → n ≤ j → j ≡ i → ⊥
apart n i j lt le e = omega arith

get-end : (t : List Literal) (x d : Literal) → get_or (t ++ x ∷ []) (length t) d ≡ x
get-end [] x d = refl
get-end (y ∷ t) x d = get-end t x d

get-before : (t u : List Literal) (k : ℕ) (d : Literal) → k < length t → get_or (t ++ u) k d ≡ get_or t k d
get-before [] u k d lt = absurd (omega arith)
get-before (y ∷ t) u zero d lt = refl
get-before (y ∷ t) u (suc k) d lt = get-before t u k d (omega arith)

pub once-push : (t : List Literal) (x : Literal) → IsEachOnce t → has t x ≡ false → IsEachOnce (t ++ x ∷ [])
once-push t x once new k lt =
    let len : length (t ++ x ∷ []) ≡ length t + 1 = length-append t (x ∷ []) in
    elim (cases_Bool (nat_lt k (length t))) [
      | inl e ↦
          (let below : k < length t = ltb-true k (length t) e in
          rw (take-append-le k t (x ∷ []) (omega arith), get-before t (x ∷ []) k (literal 0 true) below) (once k below))
      | inr e ↦
          (let above : length t ≤ k = ltb-false k (length t) e in
          let at : k ≡ length t = omega arith in
          rw at (rw (take-append_seam t (x ∷ []), get-end t x (literal 0 true)) new))
    ]

pub once-pop : (t : List Literal) (x : Literal) → IsEachOnce (t ++ x ∷ []) → IsEachOnce t
once-pop t x once k lt =
    let len : length (t ++ x ∷ []) ≡ length t + 1 = length-append t (x ∷ []) in
    let h : has (take k (t ++ x ∷ [])) (get_or (t ++ x ∷ []) k (literal 0 true)) ≡ false = once k (omega arith) in
    rw (take-append-le k t (x ∷ []) (omega arith), get-before t (x ∷ []) k (literal 0 true) lt) at h

pub once-last : (t : List Literal) (x : Literal) → IsEachOnce (t ++ x ∷ []) → has t x ≡ false
once-last t x once =
    let len : length (t ++ x ∷ []) ≡ length t + 1 = length-append t (x ∷ []) in
    let h : has (take (length t) (t ++ x ∷ [])) (get_or (t ++ x ∷ []) (length t) (literal 0 true)) ≡ false = once (length t) (omega arith) in
    rw (take-append_seam t (x ∷ []), get-end t x (literal 0 true)) at h

not-at : (x y : ℕ) → (x ≡ y → ⊥) → is_at (nat_cmp x) y ≡ false
not-at x y ne = false_from_ne_true (is_at (nat_cmp x) y) (λ e. ne (exact_unsigned x y ((Equal-is (nat_cmp x y)).0 e)))

-- one literal fewer, in the table
pub Tell-near_less : (near : List Bool) (far : BTreeSet ℕ) (t : List Literal) (x : Literal) → Tell near far (t ++ x ∷ []) → index_of x < length near → Tell (set near (index_of x) false) far t
Tell-near_less near far t x tell inside = record {
  near = λ l below. elim (cases_eq (index_of l) (index_of x)) [
    | inl e ↦ (rw (index_of-injective l x e) (let lt : index_of x < length near = inside in rw get_or-set_same (sym (once-last t x tell.once))))
    | inr ne ↦ (rw (get_or-set_other near (index_of x) (index_of l) false false ne) (tell.near l (rw length-set at below) ∙ has-push_other t x l ne))
  ];
  past = λ l above. tell.past l (rw length-set at above) ∙ has-push_other t x l (λ e. apart (length near) (index_of x) (index_of l) inside (rw length-set at above) e);
  once = once-pop t x tell.once;
}

-- .. or in the set
pub Tell-far_less : (near : List Bool) (far less : BTreeSet ℕ) (t : List Literal) (x : Literal) → Tell near far (t ++ x ∷ []) → length near ≤ index_of x → Updates nat_cmp far less (index_of x) false → Tell near less t
Tell-far_less near far less t x tell outside up = record {
  near = λ l below. tell.near l below ∙ has-push_other t x l (λ e. apart (length near) (index_of l) (index_of x) below outside (sym e));
  past = λ l above. elim (cases_eq (index_of l) (index_of x)) [
    | inl e ↦ (rw (index_of-injective l x e) (up.1 ∙ sym (once-last t x tell.once)))
    | inr ne ↦ (up.2 (index_of l) (not-at (index_of x) (index_of l) (λ e. ne (sym e))) ∙ tell.past l above ∙ has-push_other t x l ne)
  ];
  once = once-pop t x tell.once;
}

-- one more literal, in the table
pub Tell-near : (near : List Bool) (far : BTreeSet ℕ) (t : List Literal) (x : Literal) → Tell near far t → has t x ≡ false → index_of x < length near → Tell (set near (index_of x) true) far (t ++ x ∷ [])
Tell-near near far t x tell new inside = record {
  near = λ l below. elim (cases_eq (index_of l) (index_of x)) [
    | inl e ↦ (rw (index_of-injective l x e) (let lt : index_of x < length near = inside in rw get_or-set_same (sym (has-push_same t x))))
    | inr ne ↦ (rw (has-push_other t x l ne) (rw (get_or-set_other near (index_of x) (index_of l) true false ne) (tell.near l (rw length-set at below))))
  ];
  past = λ l above. tell.past l (rw length-set at above) ∙ sym (has-push_other t x l (λ e. apart (length near) (index_of x) (index_of l) inside (rw length-set at above) e));
  once = once-push t x tell.once new;
}

-- .. or in the set
pub Tell-far : (near : List Bool) (far more : BTreeSet ℕ) (t : List Literal) (x : Literal) → Tell near far t → has t x ≡ false → length near ≤ index_of x → Updates nat_cmp far more (index_of x) true → Tell near more (t ++ x ∷ [])
Tell-far near far more t x tell new outside up = record {
  near = λ l below. tell.near l below ∙ sym (has-push_other t x l (λ e. apart (length near) (index_of l) (index_of x) below outside (sym e)));
  past = λ l above. elim (cases_eq (index_of l) (index_of x)) [
    | inl e ↦ (rw (index_of-injective l x e) (up.1 ∙ sym (has-push_same t x)))
    | inr ne ↦ (up.2 (index_of l) (not-at (index_of x) (index_of l) (λ e. ne (sym e))) ∙ tell.past l above ∙ sym (has-push_other t x l ne))
  ];
  once = once-push t x tell.once new;
}
