-- Which literals are taken to be true, in order, each once. Each literal has a number of its own: the
-- literals whose numbers are below the length of a table stand in the table, and the others in a set.
use Rattle.std.specs.Prelude.{ℕ, ◌+◌, ◌*◌, ◌<◌, ◌≤◌, ◌≡◌, Bool, true, false, cond, if◌then◌else◌, List, [], ◌∷◌, ◌++◌, length, take, slice_index_or}
use Rattle.std.specs.Ordering.{nat_cmp}
use Rattle.std.specs.BTreeSet.{BTreeSet, contains}
use Rattle.knox_cnf.specs.Literals.{Literal, literal, has}

-- one more literal is true
abbrev pub with_true : List Literal → Literal → List Literal
with_true trail l = cond (has trail l) trail (trail ++ l ∷ [])

-- .. or several
abbrev pub all_with_true : List Literal → List Literal → List Literal
all_with_true trail [] = trail
all_with_true trail (l ∷ ls) = all_with_true (with_true trail l) ls

-- more literals are true than before, which come first
abbrev pub Extends : List Literal → List Literal → Type 0
Extends before after = (more : List Literal) × (after ≡ before ++ more)

abbrev pub index_of : Literal → ℕ
index_of l = 2 * l.var + (if l.positive then 0 else 1)

-- each literal stands once
abbrev pub IsEachOnce : List Literal → Type 0
IsEachOnce trail = (k : ℕ) → k < length trail → has (take k trail) (slice_index_or trail k (literal 0 true)) ≡ false

-- the table and the set tell of each literal whether it is one of these
pub record Tell (table : List Bool) (far : BTreeSet ℕ) (trail : List Literal) : Type 0 where
  pub near : (l : Literal) → index_of l < length table → slice_index_or table (index_of l) false ≡ has trail l
  pub past : (l : Literal) → length table ≤ index_of l → contains nat_cmp far (index_of l) ≡ has trail l
  pub once : IsEachOnce trail
