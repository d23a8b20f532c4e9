-- What clauses and formulas mean, after DIMACS: a clause is true where one of its literals is, and a
-- formula where each of its clauses is. Variable v has place v - 1 in a list of values.
-- The project's own: a variable past the list is false.
use Rattle.std.specs.Prelude.{ℕ, ◌-◌, nat_le, Bool, false, not, if◌then◌else◌, List, slice_index_or}
use Rattle.std.specs.List.{list_any, list_all}
use Rattle.knox_cnf.specs.Literals.{Literal}

abbrev pub value_in : List Bool → ℕ → Bool
value_in values v = slice_index_or values (v - 1) false

abbrev pub literal_true : (ℕ → Bool) → Literal → Bool
literal_true v l = if l.positive then v l.var else not (v l.var)

abbrev pub clause_true : (ℕ → Bool) → List Literal → Bool
clause_true v c = list_any (literal_true v) c

abbrev pub clauses_true : (ℕ → Bool) → List (List Literal) → Bool
clauses_true v cs = list_all (clause_true v) cs

-- no variable is past so many
abbrev pub clause_within : ℕ → List Literal → Bool
clause_within vars c = list_all (λ (l : Literal). nat_le l.var vars) c

abbrev pub is_within : ℕ → List (List Literal) → Bool
is_within vars cs = list_all (clause_within vars) cs
