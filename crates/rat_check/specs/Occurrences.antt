-- Where the clauses that hold a literal are listed. Each literal has a number; a table has a list of ids at
-- each number, and one list more serves all literals whose numbers were past the table.
use Rattle.std.specs.Prelude.{ℕ, ◌≡◌, ◌==◌, Bool, true, List, [], ◌++◌, Some, slice_index_or}
use Rattle.std.specs.List.{list_any}
use Rattle.knox_cnf.specs.Literals.{Literal, has}
use Rattle.lrat_check.specs.Marks.{index_of}
use Rattle.lrat_check.specs.Derivations.{Proof, live_clause}
use Rattle.rat_check.specs.declared.occurrences.Occurrences.{Occurrences}

-- the number is one of these
abbrev pub among : List ℕ → ℕ → Bool
among ids i = list_any (λ j. j == i) ids

-- the list at a place of a table
abbrev pub list_at : List (List ℕ) → ℕ → List ℕ
list_at lists s = slice_index_or lists s []

-- the ids that are listed for a literal
abbrev pub ids_of : Occurrences → Literal → List ℕ
ids_of o l = list_at o.near.items (index_of l) ++ o.far

-- what was in a list, or in the list at each place, is still there
abbrev pub Keeps : List ℕ → List ℕ → Type 0
Keeps old new = (i : ℕ) → among old i ≡ true → among new i ≡ true

abbrev pub KeepsEach : List (List ℕ) → List (List ℕ) → Type 0
KeepsEach old new = (s : ℕ) → Keeps (list_at old s) (list_at new s)

-- what was listed is still listed
pub record Extends (old new : Occurrences) : Type 0 where
  pub each : (l : Literal) → Keeps (ids_of old l) (ids_of new l)

-- the clause is listed for each of its literals
pub record Lists (o : Occurrences) (id : ℕ) (c : List Literal) : Type 0 where
  pub each : (l : Literal) → has c l ≡ true → among (ids_of o l) id ≡ true

-- every live clause is
pub record AreListed (d : Proof) (o : Occurrences) : Type 0 where
  pub each : (id : ℕ) (c : List Literal) → live_clause d id ≡ Some c → Lists o id c
