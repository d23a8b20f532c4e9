-- Sums of bits, the least significant first.
use Rattle.std.specs.Prelude.{ℕ, Bool, if◌then◌else◌, List, [], ◌∷◌, ◌++◌, length, drop, ◌≡◌}
use Rattle.bit_gates.specs.declared.signal.Signal.{Signal}
use Rattle.bit_gates.specs.declared.signal.Gate.{Gate}
use Rattle.bit_gates.specs.Gates.{differ, signal_at, IsBelow}
use Rattle.bit_gates.specs.Words.{bits_at, Within}

abbrev pub sum_bit : Bool → Bool → Bool → Bool
sum_bit a b c = differ (differ a b) c

abbrev pub carry_bit : Bool → Bool → Bool → Bool
carry_bit a b c = if differ a b then c else a

-- the bits of a sum, and the last carry
abbrev pub add_bits : Bool → List Bool → List Bool → List Bool
add_bits c (a ∷ xs) (b ∷ ys) = sum_bit a b c ∷ add_bits (carry_bit a b c) xs ys
add_bits c _ _ = []

abbrev pub add_carry : Bool → List Bool → List Bool → Bool
add_carry c (a ∷ xs) (b ∷ ys) = add_carry (carry_bit a b c) xs ys
add_carry c _ _ = c

-- i places of a sum are done
pub record Adds (first : List Gate) (a b : List Signal) (start : Signal) (i : ℕ) (gs : List Gate) (c : Signal) (out : List Signal) : Type 0 where
  pub within : Within gs out
  pub carry : IsBelow (length gs) c
  pub bits : (v : ℕ → Bool) → bits_at v gs out ++ add_bits (signal_at v gs c) (drop i (bits_at v first a)) (drop i (bits_at v first b)) ≡ add_bits (signal_at v first start) (bits_at v first a) (bits_at v first b)
  pub last : (v : ℕ → Bool) → add_carry (signal_at v gs c) (drop i (bits_at v first a)) (drop i (bits_at v first b)) ≡ add_carry (signal_at v first start) (bits_at v first a) (bits_at v first b)
