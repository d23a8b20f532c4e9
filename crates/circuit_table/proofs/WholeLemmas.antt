-- The rule of a whole circuit, row by row.
use Rattle.std.proofs.Common.{◌≡◌, ℕ, zero, suc, ◌+◌, ◌<◌, ◌≤◌, List, Option, Some, None, Bool, true, false, set, replicate, length, slice_get, refl, sym, ◌∙◌, ap, arith, add-one, eq-eqb, inl, inr}
use Rattle.std.proofs.lemmas.Bool.{cases_lt, cases_eq}
use Rattle.std.proofs.lemmas.List.{get_or-set_same, get_or-set_other, get_or-replicate, get_or_past, length-replicate}
use Rattle.circuit_nodes.specs.declared.node.Row.{Row}
use Rattle.circuit_nodes.specs.Needs.{is_needed}
use Rattle.circuit_nodes.proofs.ValuesLemmas.{differs}
use Rattle.circuit_table.specs.Whole.{row_hungry, row_lacks, hungry_at, or_else, unfed_among}

-- marks tell which of the first i rows are hungry
abbrev pub AreMarked : List Bool → List Row → ℕ → Type 0
AreMarked marks rows i = (k : ℕ) → is_needed marks k ≡ hungry_at rows i k

by-marks : (marks : List Bool) (rows : List Row) (i : ℕ) → AreMarked marks rows i → is_needed marks ≡ hungry_at rows i
by-marks marks rows i are = λ t k. are k t

-- one more row
pub marked-more : (marks : List Bool) (rows : List Row) (i : ℕ) (r : Row) (v : Bool) → AreMarked marks rows i → slice_get rows i ≡ Some r → i < length marks → v ≡ row_hungry (is_needed marks) (Some r) → AreMarked (set marks i v) rows (i + 1)
marked-more marks rows i r v are is lt e k = elim (cases_eq k i) [
  | inl q ↦
      rw (add-one, eq-eqb k i q)
      (ap (is_needed (set marks i v)) q ∙ (get_or-set_same marks i v false lt ∙ (e
      ∙ (ap (λ (at : ℕ → Bool). row_hungry at (Some r)) (by-marks marks rows i are) ∙ ap (row_hungry (hungry_at rows i)) (sym is)))))
  | inr ne ↦ rw (add-one, differs k i ne) (get_or-set_other marks i k v false ne ∙ are k)
]

lacks-is : (marks : List Bool) (rows : List Row) (i : ℕ) (r : Row) → AreMarked marks rows i → slice_get rows i ≡ Some r → row_lacks (is_needed marks) (Some r) ≡ row_lacks (hungry_at rows i) (slice_get rows i)
lacks-is marks rows i r are is = ap (λ (at : ℕ → Bool). row_lacks at (Some r)) (by-marks marks rows i are) ∙ ap (row_lacks (hungry_at rows i)) (sym is)

-- a row that breaks no rule
pub fed-more : (marks : List Bool) (rows : List Row) (i : ℕ) (r : Row) → AreMarked marks rows i → slice_get rows i ≡ Some r → false ≡ row_lacks (is_needed marks) (Some r) → unfed_among rows i ≡ None → unfed_among rows (i + 1) ≡ None
fed-more marks rows i r are is e none = rw (add-one, none, sym (e ∙ lacks-is marks rows i r are is)) refl

-- what is found is found among more rows
found-still : (rows : List Row) (i k n : ℕ) → unfed_among rows i ≡ Some k → i ≤ n → unfed_among rows n ≡ Some k
found-still rows i k zero e le = let z : i ≡ 0 = omega arith in ap (unfed_among rows) (sym z) ∙ e
found-still rows i k (suc n) e le = elim (cases_lt n i) [
  | inl lt ↦ let q : suc n ≡ i = omega arith in ap (unfed_among rows) q ∙ e
  | inr less ↦ ap (λ (o : Option ℕ). or_else o (row_lacks (hungry_at rows n) (slice_get rows n)) n) (found-still rows i k n e less)
]

-- a row that breaks the rule
pub fed-found : (marks : List Bool) (rows : List Row) (i : ℕ) (r : Row) → AreMarked marks rows i → slice_get rows i ≡ Some r → true ≡ row_lacks (is_needed marks) (Some r) → unfed_among rows i ≡ None → i < length rows → Some i ≡ unfed_among rows (length rows)
fed-found marks rows i r are is e none lt =
    let here : unfed_among rows (i + 1) ≡ Some i = rw (add-one, none, sym (e ∙ lacks-is marks rows i r are is)) refl in
    sym (found-still rows (i + 1) i (length rows) here (omega arith))

pub none-marked : (n : ℕ) (k : ℕ) → is_needed (replicate n false) k ≡ false
none-marked n k = elim (cases_lt k n) [
  | inl lt ↦ get_or-replicate n k false false lt
  | inr le ↦ let e = length-replicate n false in get_or_past (replicate n false) k false (omega (arith, e, le))
]

pub ruleset fed_steps = (fed-more, marked-more)

pub ruleset none_steps = (none-marked)
