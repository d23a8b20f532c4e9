-- What stays as gates are added, and what signals mean.
use Rattle.std.specs.Prelude.{ℕ, Bool, List, ◌++◌, length, ◌≡◌}
use Rattle.bit_gates.specs.declared.signal.Signal.{Signal}
use Rattle.bit_gates.specs.declared.signal.Gate.{Gate}
use Rattle.bit_gates.specs.Gates.{signal_at, IsBelow}

-- older gates stay in their places, and so older signals keep their bits under every assignment
pub record Grows (old new : List Gate) : Type 0 where
  pub more : List Gate
  pub longer : new ≡ old ++ more
  pub kept : (v : ℕ → Bool) (s : Signal) → IsBelow (length old) s → signal_at v new s ≡ signal_at v old s

-- a signal with a bit under each assignment
pub record Means (gs : List Gate) (s : Signal) (f : (ℕ → Bool) → Bool) : Type 0 where
  pub within : IsBelow (length gs) s
  pub means : (v : ℕ → Bool) → signal_at v gs s ≡ f v
