-- When all variables are assigned, and what they are then.
use Rattle.std.specs.Prelude.{ℕ, zero, suc, ◌+◌, ◌*◌, ◌^◌, ◌≡◌, ◌≤◌, ◌<◌, ◌||◌, if◌then◌else◌, Bool, true, false, Option, Some, None, List, length, slice_index_or}
use Rattle.knox_cnf.specs.Literals.{Literal, literal, has}
use Rattle.sat_core.specs.Chains.{falsifies, clause_at}
use Rattle.sat_core.specs.Watches.{is_false}
use Rattle.sat_core.specs.Lists.{HasList}
use Rattle.sat_core.specs.Storing.{AreGuarded}

-- a variable that isn't true is false
abbrev pub IsAssigned : List Literal → ℕ → Type 0
IsAssigned trail v = has trail (literal v true) ≡ false → has trail (literal v false) ≡ true

-- every variable that has lists among n
abbrev pub AreAssigned : List Literal → ℕ → Type 0
AreAssigned trail n = (v : ℕ) → 1 ≤ v → 2 * v + 1 < n → IsAssigned trail v

-- a literal that may be decided
pub record IsChoice (trail : List Literal) (n : ℕ) (l : Literal) : Type 0 where
  pub listed : HasList n l
  pub unset : has trail l ≡ false
  pub free : is_false trail l ≡ false

-- all clauses are guarded and all variables assigned, or a clause is false
abbrev pub Explored : List (List Literal) → List Literal → ℕ → Option ℕ → Type 0
Explored stored trail n None = AreGuarded stored trail × AreAssigned trail n
Explored stored trail n (Some k) = (k < length stored) × (falsifies trail (clause_at stored k) ≡ true)

-- how many variables below n aren't assigned
abbrev pub free_below : List Literal → ℕ → ℕ
free_below t zero = 0
free_below t (suc v) = (if has t (literal v true) || has t (literal v false) then 0 else 1) + free_below t v

-- a value for each variable, which is true where the trail has its literal
pub record TellsValues (trail : List Literal) (vars : ℕ) (values : List Bool) : Type 0 where
  pub long : length values ≡ vars
  pub each : (v : ℕ) → v < vars → v + 1 < 2 ^ 63 → slice_index_or values v false ≡ has trail (literal (v + 1) true)
