-- A text of which one piece is replaced, or nothing.
use Rattle.std.specs.Prelude.{ℕ, List, [], ◌++◌, ◌≡◌, ◌⊎◌}

abbrev pub Edited : List ℕ → List ℕ → List ℕ → List ℕ → Type 0
Edited text old new out =
    ((before : List ℕ) × (after : List ℕ) × (text ≡ before ++ (old ++ after)) × (out ≡ (before ++ new) ++ after))
    ⊎ (out ≡ [])
