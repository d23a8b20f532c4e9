-- Clauses as a solver stores them: each literal once, and in the lists of both of its watches.
use Rattle.std.specs.Prelude.{ℕ, ◌≡◌, ◌<◌, ◌≤◌, ◌⊎◌, Bool, true, false, Option, Some, None, List, [], ◌∷◌, ◌++◌, length}
use Rattle.knox_cnf.specs.Literals.{Literal, has}
use Rattle.lrat_check.specs.Marks.{index_of}
use Rattle.sat_core.specs.Chains.{falsifies, clause_at}
use Rattle.sat_core.specs.Watches.{is_false, satisfied, guarded, HasSame}
use Rattle.sat_core.specs.Visits.{IsDistinct, watch}
use Rattle.sat_core.specs.Lists.{HasList, list_at, among, AreListed, AreRewatched, Appends}
use Rattle.sat_core.specs.Explained.{SameClauses}

-- the literals of a clause, each once
pub record IsSetOf (c d : List Literal) : Type 0 where
  pub same : HasSame c d
  pub distinct : IsDistinct d

-- a literal that stood there, or is added
abbrev pub AddsOnce : Literal → List Literal → List Literal → Type 0
AddsOnce x old new = ((has old x ≡ true) × (new ≡ old)) ⊎ ((has old x ≡ false) × (new ≡ old ++ x ∷ []))

-- the variables of the literals are from 1 to n
pub record IsAbove (n : ℕ) (c : List Literal) : Type 0 where
  pub each : (x : Literal) → has c x ≡ true → (1 ≤ x.var) × (x.var ≤ n)

-- every literal has a list
pub record Fits (c : List Literal) (n : ℕ) : Type 0 where
  pub each : (x : Literal) → has c x ≡ true → HasList n x

-- the lists have what they had, and a clause at both of its watches
pub record Lists (c : List Literal) (place : ℕ) (old new : List (List ℕ)) : Type 0 where
  pub long : length new ≡ length old
  pub more : (q i : ℕ) → among i (list_at old q) ≡ true → among i (list_at new q) ≡ true
  pub own : (j : ℕ) → 2 ≤ length c → j < 2 → among place (list_at new (index_of (watch c j))) ≡ true

-- the clauses are stored and listed
pub record Stores (cs stored : List (List Literal)) (lists : List (List ℕ)) (n : ℕ) : Type 0 where
  pub same : SameClauses cs stored
  pub distinct : (k : ℕ) → IsDistinct (clause_at stored k)
  pub listed : AreListed stored lists
  pub long : length lists ≡ n

-- what becomes of a clause with one literal: it is true in the end, the clause being the reason, or the clause is false
abbrev pub AssertsUnit : List Literal → ℕ → List Literal → List Literal → List ℕ → List ℕ → Bool → Type 0
AssertsUnit c place old new before after true =
    (((new ≡ old) × (after ≡ before)) ⊎ ((l : Literal) × (c ≡ l ∷ []) × (has old l ≡ false) × (is_false old l ≡ false) × (new ≡ old ++ l ∷ []) × (after ≡ before ++ place ∷ [])))
    × (length c < 2 → satisfied new c ≡ true)
AssertsUnit c place old new before after false = (new ≡ old) × (after ≡ before) × (falsifies old c ≡ true)

-- the clauses before a place that have fewer than two literals are satisfied
abbrev pub ShortsHold : List (List Literal) → List Literal → ℕ → Type 0
ShortsHold stored trail n = (k : ℕ) → k < n → length (clause_at stored k) < 2 → satisfied trail (clause_at stored k) ≡ true

-- every clause is guarded
abbrev pub AreGuarded : List (List Literal) → List Literal → Type 0
AreGuarded stored trail = (k : ℕ) → k < length stored → guarded trail (clause_at stored k) ≡ true

-- all clauses of one literal are satisfied, or one of fewer than two is false
abbrev pub Units : List (List Literal) → List Literal → Option ℕ → Type 0
Units stored trail None = ShortsHold stored trail (length stored)
Units stored trail (Some k) = (k < length stored) × (falsifies trail (clause_at stored k) ≡ true)

-- all clauses are guarded, or one is false
abbrev pub Finishes : List (List Literal) → List Literal → Option ℕ → Type 0
Finishes stored trail None = AreGuarded stored trail
Finishes stored trail (Some k) = (k < length stored) × (falsifies trail (clause_at stored k) ≡ true)

-- a propagation over all clauses
pub record Propagated (old new : List (List Literal)) (before after : List (List ℕ)) (was is : List Literal) (conflict : Option ℕ) : Type 0 where
  pub rewatched : AreRewatched was old new
  pub appends : Appends old was is
  pub long : length after ≡ length before
  pub listed : AreListed new after
  pub finishes : Finishes new is conflict
