-- The same gate at each place.
use Rattle.std.specs.Prelude.{ℕ, Bool, ◌&&◌, ◌||◌, if◌then◌else◌, List, [], ◌∷◌, ◌++◌, length, drop, ◌≡◌}
use Rattle.bit_gates.specs.declared.signal.Signal.{Signal}
use Rattle.bit_gates.specs.declared.signal.Gate.{Gate}
use Rattle.bit_gates.specs.declared.pairs.Pair.{Pair}
use Rattle.bit_gates.specs.declared.pairs.Pair.TheVariants as pair
use Rattle.bit_gates.specs.Gates.{differ, signal_at, IsBelow}
use Rattle.bit_gates.specs.Words.{bits_at, Within}

abbrev pub pair_bit : (Signal → Bool) → Pair → Bool → Bool → Bool
pair_bit at pair.And x y = x && y
pair_bit at pair.Or x y = x || y
pair_bit at pair.Xor x y = differ x y
pair_bit at (pair.Choose c) x y = if at c then x else y

abbrev pub pair_bits : (Signal → Bool) → Pair → List Bool → List Bool → List Bool
pair_bits at p (x ∷ xs) (y ∷ ys) = pair_bit at p x y ∷ pair_bits at p xs ys
pair_bits at p _ _ = []

abbrev pub IsPairBelow : ℕ → Pair → Type 0
IsPairBelow k (pair.Choose c) = IsBelow k c
IsPairBelow k _ = Unit {0}

-- i places are done
pub record Paired (first : List Gate) (p : Pair) (a b : List Signal) (i : ℕ) (gs : List Gate) (out : List Signal) : Type 0 where
  pub within : Within gs out
  pub in_pair : IsPairBelow (length gs) p
  pub bits : (v : ℕ → Bool) → bits_at v gs out ++ pair_bits (signal_at v first) p (drop i (bits_at v first a)) (drop i (bits_at v first b)) ≡ pair_bits (signal_at v first) p (bits_at v first a) (bits_at v first b)
