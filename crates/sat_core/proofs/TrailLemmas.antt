-- A table of places, as literals are pushed and popped.
use Rattle.std.proofs.Common.{◌≡◌, ℕ, suc, ◌+◌, ◌<◌, ◌≤◌, false, ◌||◌, List, [], ◌∷◌, ◌++◌, append_assoc, append-nil, length, length-append, take, refl, sym, ◌∙◌, ap, subst, arith, inl, inr}
use Rattle.std.specs.Prelude.{slice_index_or, slice_set}
use Rattle.std.proofs.lemmas.Bool.{both_ways, false_from_ne_true, cases_eq, cases_lt}
use Rattle.std.proofs.lemmas.List.{get_or_append_left, get_or_at, get_or-set_same, get_or-set_other, take_at}
use Rattle.knox_cnf.specs.Literals.{Literal, same_literal, has}
use Rattle.lrat_check.specs.Marks.{index_of, Extends}
use Rattle.lrat_check.proofs.LiteralLemmas.{same_literal-true, has-push, index_of-injective}
use Rattle.sat_core.specs.Cones.{literal_at}
use Rattle.sat_core.specs.Resolved.{IsFirst}
use Rattle.sat_core.specs.Tables.{AreOnce, Tells}
use Rattle.sat_core.proofs.Members.{has-left}
use Rattle.sat_core.proofs.Resolving.{none-first, has-place}

-- ---- trails without a literal twice

-- a literal that isn't there is apart from each that is
pub apart-at : (t : List Literal) (l : Literal) (j : ℕ) → has t l ≡ false → j < length t → same_literal l (literal_at t j) ≡ false
apart-at t l j n h = false_from_ne_true (same_literal l (literal_at t j)) (λ s. both_ways (has t l) n (ap (has t) (same_literal-true l (literal_at t j) s) ∙ has-place t j h))

pub old-at : (t : List Literal) (x : Literal) (j : ℕ) → j < length t → literal_at (t ++ x ∷ []) j ≡ literal_at t j
old-at t x j h = get_or_append_left t (x ∷ []) _ j h

pub new-at : (t : List Literal) (x : Literal) (j : ℕ) → j ≡ length t → literal_at (t ++ x ∷ []) j ≡ x
new-at t x j e = get_or_at t x [] _ j (sym e)

pub once-push : (t : List Literal) (x : Literal) → has t x ≡ false → AreOnce t → AreOnce (t ++ x ∷ [])
once-push t x n o = record {
  each = λ j k lt h.
      let l : length (t ++ x ∷ []) ≡ length t + 1 = length-append t (x ∷ []) in
      let jl : j < length t = omega (arith, l, lt, h) in
      elim (cases_lt k (length t)) [
        | inl kl ↦ ap (λ a. same_literal a (literal_at (t ++ x ∷ []) j)) (old-at t x k kl) ∙ ap (same_literal (literal_at t k)) (old-at t x j jl) ∙ o.each j k lt kl
        | inr ge ↦
            (let e : k ≡ length t = omega (arith, l, h, ge) in
            ap (λ a. same_literal a (literal_at (t ++ x ∷ []) j)) (new-at t x k e) ∙ ap (same_literal x) (old-at t x j jl) ∙ apart-at t x j n jl)
      ];
}

pub once-front : (t u : List Literal) → AreOnce (t ++ u) → AreOnce t
once-front t u o = record {
  each = λ j k lt h.
      let l : length (t ++ u) ≡ length t + length u = length-append t u in
      let jl : j < length t = omega (arith, lt, h) in
      sym (ap (λ a. same_literal a (literal_at (t ++ u) j)) (get_or_append_left t u _ k h) ∙ ap (same_literal (literal_at t k)) (get_or_append_left t u _ j jl))
      ∙ o.each j k lt (omega (arith, l, h));
}

-- the last literal isn't among those before it
pub last-new : (t : List Literal) (x : Literal) → AreOnce (t ++ x ∷ []) → has t x ≡ false
last-new t x o = none-first t x (λ j h.
    let l : length (t ++ x ∷ []) ≡ length t + 1 = length-append t (x ∷ []) in
    sym (ap (λ a. same_literal a (literal_at (t ++ x ∷ []) j)) (new-at t x (length t) refl) ∙ ap (same_literal x) (old-at t x j h))
    ∙ o.each j (length t) h (omega (arith, l)))

-- ---- tables

pub tells-same : (old new : List ℕ) (ls : List Literal) → ((k : ℕ) → slice_index_or new k 0 ≡ slice_index_or old k 0) → Tells old ls → Tells new ls
tells-same old new ls s t = record {
  found = λ l q e. t.found l q (sym (s (index_of l)) ∙ e);
  none = λ l e. t.none l (sym (s (index_of l)) ∙ e);
  once = t.once;
}

pub tells-push : (old new : List ℕ) (ls : List Literal) (x : Literal) → has ls x ≡ false → slice_index_or new (index_of x) 0 ≡ suc (length ls) → ((k : ℕ) → (k ≡ index_of x → ⊥) → slice_index_or new k 0 ≡ slice_index_or old k 0) → Tells old ls → Tells new (ls ++ x ∷ [])
tells-push old new ls x n own other t = record {
  found = λ l q e. elim (cases_eq (index_of l) (index_of x)) [
    | inl same ↦
        (let at : q ≡ length ls = (let z : suc q ≡ suc (length ls) = sym e ∙ ap (λ (k : ℕ). slice_index_or new k 0) same ∙ own in omega (arith, z)) in
        (inside q (omega (arith, at)), new-at ls x q at ∙ sym (index_of-injective l x same)))
    | inr ne ↦ (let f = t.found l q (sym (other (index_of l) ne) ∙ e) in let h = f.0 in (inside q (omega (arith, h)), old-at ls x q f.0 ∙ f.1))
  ];
  none = λ l e. elim (cases_eq (index_of l) (index_of x)) [
    | inl same ↦ absurd (let z : suc (length ls) ≡ 0 = sym own ∙ ap (λ (k : ℕ). slice_index_or new k 0) (sym same) ∙ e in omega (arith, z))
    | inr ne ↦
        has-push ls x l
        ∙ ap (λ b. b || same_literal l x) (t.none l (sym (other (index_of l) ne) ∙ e))
        ∙ false_from_ne_true (same_literal l x) (λ s. ne (ap index_of (same_literal-true l x s)))
  ];
  once = once-push ls x n t.once;
}
  where
    inside : (q : ℕ) → q ≤ length ls → q < length (ls ++ x ∷ [])
    inside q h = omega (arith, h, length-append ls (x ∷ []))

pub tells-pop : (old new : List ℕ) (ls front : List Literal) (x : Literal) → ls ≡ front ++ x ∷ [] → slice_index_or new (index_of x) 0 ≡ 0 → ((k : ℕ) → (k ≡ index_of x → ⊥) → slice_index_or new k 0 ≡ slice_index_or old k 0) → Tells old ls → Tells new front
tells-pop old new ls front x is own other t0 =
    let t : Tells old (front ++ x ∷ []) = subst (Tells old) is t0 in
    record {
      found = λ l q e. elim (cases_eq (index_of l) (index_of x)) [
        | inl same ↦ absurd (let z : suc q ≡ 0 = sym e ∙ ap (λ (k : ℕ). slice_index_or new k 0) same ∙ own in omega (arith, z))
        | inr ne ↦ (let f = t.found l q (sym (other (index_of l) ne) ∙ e) in let h = below l q ne f.0 f.1 in (h, sym (old-at front x q h) ∙ f.1))
      ];
      none = λ l e. elim (cases_eq (index_of l) (index_of x)) [
        | inl same ↦ ap (has front) (index_of-injective l x same) ∙ last-new front x t.once
        | inr ne ↦ false_from_ne_true (has front l) (λ h. both_ways (has (front ++ x ∷ []) l) (t.none l (sym (other (index_of l) ne) ∙ e)) (has-left front (x ∷ []) l h))
      ];
      once = once-front front (x ∷ []) t.once;
    }
  where
    below : (l : Literal) (q : ℕ) → (index_of l ≡ index_of x → ⊥) → q < length (front ++ x ∷ []) → literal_at (front ++ x ∷ []) q ≡ l → q < length front
    below l q ne h a = elim (cases_lt q (length front)) [
      | inl lt ↦ lt
      | inr ge ↦
          (let long : length (front ++ x ∷ []) ≡ length front + 1 = length-append front (x ∷ []) in
          let e : q ≡ length front = omega (arith, long, h, ge) in
          absurd (ne (ap index_of (sym a ∙ new-at front x q e))))
    ]

pub tells-none : (table : List ℕ) (ls : List Literal) → table ≡ [] → ls ≡ [] → Tells table ls
tells-none table ls e f = subst (λ xs. Tells xs ls) (sym e) (subst (Tells []) (sym f) (record {
  found = λ l q h. absurd (let z : 0 ≡ suc q = h in omega (arith, z));
  none = λ l h. refl;
  once = record { each = λ j k lt h. absurd (omega (arith, h)) };
}))

pub first-told : (table : List ℕ) (ls : List Literal) (l : Literal) (q : ℕ) → slice_index_or table (index_of l) 0 ≡ suc q → Tells table ls → IsFirst ls l q
first-told table ls l q e t =
    let f = t.found l q e in
    record { inside = f.0; is = f.1; first = λ j lt. ap (λ a. same_literal a (literal_at ls j)) (sym f.1) ∙ t.once.each j q lt f.0 }

-- ---- fronts

pub extends-on : (a b c : List Literal) → Extends a b → Extends b c → Extends a c
extends-on a b c p q = (p.0 ++ q.0, q.1 ∙ ap (λ t. t ++ q.0) p.1 ∙ append_assoc a p.0 q.0)

pub extends-none : (a : List Literal) → Extends a a
extends-none a = ([], sym (append-nil a))

pub extends-take : (a b : List Literal) (n : ℕ) → length a ≡ n → Extends a b → a ≡ take n b
extends-take a b n e p = sym (ap (take n) p.1 ∙ take_at a p.0 n e)

-- one more place in a table that has room for it
pub tells-pushed : (old mid new : List ℕ) (ls : List Literal) (x : Literal) (at : ℕ) → at ≡ index_of x → at < length mid → new ≡ slice_set mid at (length ls + 1) → ((k : ℕ) → slice_index_or mid k 0 ≡ slice_index_or old k 0) → has ls x ≡ false → Tells old ls → Tells new (ls ++ x ∷ [])
tells-pushed old mid new ls x at e lt s same n t =
    let own : slice_index_or new (index_of x) 0 ≡ suc (length ls) =
    ap (λ xs. slice_index_or xs (index_of x) 0) s ∙ ap (λ (k : ℕ). slice_index_or (slice_set mid at (length ls + 1)) k 0) (sym e) ∙ get_or-set_same mid at (length ls + 1) 0 lt ∙ (let z : length ls + 1 ≡ suc (length ls) = omega arith in z) in
    tells-push old new ls x n own (λ k ne. ap (λ xs. slice_index_or xs k 0) s ∙ get_or-set_other mid at k (length ls + 1) 0 (λ h. ne (h ∙ e)) ∙ same k) t
