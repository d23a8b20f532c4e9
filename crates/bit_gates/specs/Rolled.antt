-- Lists whose items get their values from those before them.
use Rattle.std.specs.Prelude.{ℕ, List, [], ◌∷◌, ◌++◌, slice_index_or, fold}

module _ {X V : Type 0} (d : V) (level : (ℕ → V) → X → V) where
  -- one more value
  abbrev pub rolled : List V → X → List V
  rolled vs x = vs ++ level (λ k. slice_index_or vs k d) x ∷ []

  -- the values of all items, from the first on
  unfoldable pub all_values : List X → List V
  all_values xs = fold rolled [] xs

  -- the value at a place
  abbrev pub value_at : List X → ℕ → V
  value_at xs k = slice_index_or (all_values xs) k d
