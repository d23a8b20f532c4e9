-- A table that tells of each literal, by its number, at which place of a list it stands, counted from 1, or 0 where it doesn't. What is past its end is 0.
use Rattle.std.specs.Prelude.{ℕ, suc, ◌≡◌, ◌<◌, false, List, length, slice_index_or}
use Rattle.knox_cnf.specs.Literals.{Literal, same_literal, has}
use Rattle.lrat_check.specs.Marks.{index_of}
use Rattle.sat_core.specs.Cones.{literal_at}

-- no literal stands at two places
pub record AreOnce (ls : List Literal) : Type 0 where
  pub each : (j k : ℕ) → j < k → k < length ls → same_literal (literal_at ls k) (literal_at ls j) ≡ false

pub record Tells (table : List ℕ) (ls : List Literal) : Type 0 where
  pub found : (l : Literal) (q : ℕ) → slice_index_or table (index_of l) 0 ≡ suc q → (q < length ls) × (literal_at ls q ≡ l)
  pub none : (l : Literal) → slice_index_or table (index_of l) 0 ≡ 0 → has ls l ≡ false
  pub once : AreOnce ls
