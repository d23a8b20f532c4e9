-- Lists of ids at literals, which grow.
use Rattle.std.proofs.Common.{◌≡◌, ℕ, zero, suc, ◌+◌, ◌<◌, ◌==◌, true, false, ◌||◌, List, [], ◌∷◌, ◌++◌, length, get_or, refl, sym, ◌∙◌, ap, subst, inl, inr}
use Rattle.std.specs.Prelude.{slice_set}
use Rattle.std.proofs.lemmas.Bool.{true≢false, or_left, or_right, or_cases, eq-eqb, cases_lt}
use Rattle.std.proofs.lemmas.List.{get_or_past}
use Rattle.std.proofs.lemmas.List.Folds.{list_any-append}
use Rattle.knox_cnf.specs.Literals.{Literal, same_literal, has}
use Rattle.lrat_check.specs.Marks.{index_of}
use Rattle.lrat_check.proofs.LiteralLemmas.{same_literal-true, has-push}
use Rattle.rat_check.specs.declared.occurrences.Occurrences.{Occurrences}
use Rattle.rat_check.specs.Occurrences.{among, list_at, ids_of, Keeps, KeepsEach, Extends, Lists}

pub among-left : (xs ys : List ℕ) (i : ℕ) → among xs i ≡ true → among (xs ++ ys) i ≡ true
among-left xs ys i h = list_any-append (λ j. j == i) xs ys ∙ or_left (among xs i) (among ys i) h

pub among-right : (xs ys : List ℕ) (i : ℕ) → among ys i ≡ true → among (xs ++ ys) i ≡ true
among-right xs ys i h = list_any-append (λ j. j == i) xs ys ∙ or_right (among xs i) (among ys i) h

pub among-last : (xs : List ℕ) (i : ℕ) → among (xs ++ i ∷ []) i ≡ true
among-last xs i = among-right xs (i ∷ []) i (ap (λ b. b || false) (eq-eqb i i refl))

pub among-ends : (ids before : List ℕ) (last id : ℕ) → ids ≡ before ++ last ∷ [] → last ≡ id → among ids id ≡ true
among-ends ids before last id split e = rw (split, e) (among-last before id)

keeps-append : (a b c d : List ℕ) → Keeps a b → Keeps c d → Keeps (a ++ c) (b ++ d)
keeps-append a b c d k m i h =
    elim (or_cases (among a i) (among c i) (sym (list_any-append (λ j. j == i) a c) ∙ h)) [
      | inl e ↦ among-left b d i (k i e)
      | inr e ↦ among-right b d i (m i e)
    ]

-- ---- one list of a table

pub KeepsEach-set : (lists : List (List ℕ)) (at : ℕ) (ids : List ℕ) → Keeps (list_at lists at) ids → KeepsEach lists (slice_set lists at ids)
KeepsEach-set [] at ids k s i h = h
KeepsEach-set (x ∷ lists) zero ids k zero i h = k i h
KeepsEach-set (x ∷ lists) zero ids k (suc s) i h = h
KeepsEach-set (x ∷ lists) (suc at) ids k zero i h = h
KeepsEach-set (x ∷ lists) (suc at) ids k (suc s) i h = KeepsEach-set lists at ids k s i h

-- one more list, which is empty
list_at-empty : (lists : List (List ℕ)) (s : ℕ) → list_at (lists ++ [] ∷ []) s ≡ list_at lists s
list_at-empty [] zero = refl
list_at-empty [] (suc s) = refl
list_at-empty (x ∷ lists) zero = refl
list_at-empty (x ∷ lists) (suc s) = list_at-empty lists s

pub KeepsEach-empty : (old lists new : List (List ℕ)) → new ≡ lists ++ [] ∷ [] → KeepsEach old lists → KeepsEach old new
KeepsEach-empty old lists new e k s i h = ap (λ (ls : List (List ℕ)). among (list_at ls s) i) e ∙ ap (λ ids. among ids i) (list_at-empty lists s) ∙ k s i h

-- ---- lists of clauses

pub Extends-parts : (old new : Occurrences) → KeepsEach old.near.items new.near.items → Keeps old.far new.far → Extends old new
Extends-parts old new near far = record {
  each = λ l. keeps-append (list_at old.near.items (index_of l)) (list_at new.near.items (index_of l)) old.far new.far (near (index_of l)) far;
}

pub Extends-then : (a b c : Occurrences) → Extends a b → Extends b c → Extends a c
Extends-then a b c k m = record { each = λ l i h. m.each l i (k.each l i h) }

pub Lists-then : (old new : Occurrences) (id : ℕ) (c : List Literal) → Extends old new → Lists old id c → Lists new id c
Lists-then old new id c more k = record { each = λ l h. more.each l id (k.each l h) }

pub Lists-none : (o : Occurrences) (id : ℕ) → Lists o id []
Lists-none o id = record { each = λ l h. absurd (true≢false (sym h)) }

-- one more literal of a clause
pub Lists-more : (old new : Occurrences) (id : ℕ) (c more : List Literal) (x : Literal) → more ≡ c ++ x ∷ [] → Extends old new → among (ids_of new x) id ≡ true → Lists old id c → Lists new id more
Lists-more old new id c more x e k own lists = record {
  each = λ l h.
      elim (or_cases (has c l) (same_literal l x) (sym (has-push c x l) ∙ ap (λ ls. has ls l) (sym e) ∙ h)) [
        | inl t ↦ k.each l id (lists.each l t)
        | inr t ↦ subst (λ (y : Literal). among (ids_of new y) id ≡ true) (sym (same_literal-true l x t)) own
      ];
}

-- clauses behind the last are empty
pub Lists-all : (cs : List (List Literal)) (o : Occurrences) → ((k : ℕ) → k < length cs → Lists o (k + 1) (get_or cs k [])) → (k : ℕ) → Lists o (k + 1) (get_or cs k [])
Lists-all cs o each k =
    elim (cases_lt k (length cs)) [
      | inl lt ↦ each k lt
      | inr ge ↦ subst (Lists o (k + 1)) (sym (get_or_past cs k [] ge)) (Lists-none o (k + 1))
    ]
