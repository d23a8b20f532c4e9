-- The least number of a list that passes a test.
use Rattle.std.specs.Prelude.{ℕ, ◌≡◌, ◌≤◌, ◌⊎◌, Bool, true, List, Option, Some, None}
use Rattle.rat_check.specs.Occurrences.{among}

abbrev pub AtMost : Option ℕ → ℕ → Type 0
AtMost None i = ⊥
AtMost (Some m) i = m ≤ i

-- the least of one that was found before and of those that pass, or none where there are none
pub record IsLeast (p : ℕ → Bool) (found : Option ℕ) (ids : List ℕ) (least : Option ℕ) : Type 0 where
  pub one : (m : ℕ) → least ≡ Some m → (p m ≡ true) ⊎ (found ≡ Some m)
  pub old : (b : ℕ) → found ≡ Some b → AtMost least b
  pub each : (i : ℕ) → among ids i ≡ true → p i ≡ true → AtMost least i
