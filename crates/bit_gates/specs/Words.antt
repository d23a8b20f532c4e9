-- Words as lists of signals, the least significant first.
use Rattle.std.specs.Prelude.{ℕ, ◌+◌, ◌*◌, Bool, if◌then◌else◌, List, [], ◌∷◌, length, map, All, ◌≡◌}
use Rattle.knox_words.specs.Bits.{Bits, bits, truth}
use Rattle.bit_gates.specs.declared.signal.Signal.{Signal}
use Rattle.bit_gates.specs.declared.signal.Gate.{Gate}
use Rattle.knox_words.specs.Ops.{op1_value}
use Rattle.knox_words.specs.declared.op.Op1.TheVariants.{Not}
use Rattle.bit_gates.specs.Gates.{signal_at, IsBelow}

abbrev pub digit : Bool → ℕ
digit b = if b then 1 else 0

-- the number of some bits, the least significant first
abbrev pub number : List Bool → ℕ
number [] = 0
number (b ∷ bs) = digit b + 2 * number bs

-- the bits of signals under an assignment
abbrev pub bits_at : (ℕ → Bool) → List Gate → List Signal → List Bool
bits_at v gs word = map (signal_at v gs) word

-- the word of signals under an assignment
abbrev pub word_of : (ℕ → Bool) → List Gate → List Signal → Bits
word_of v gs word = bits (length word) (number (bits_at v gs word))

-- signals of these gates
abbrev pub Within : List Gate → List Signal → Type 0
Within gs word = All (IsBelow (length gs)) word

-- signals with bits under each assignment
pub record Spells (gs : List Gate) (word : List Signal) (f : (ℕ → Bool) → List Bool) : Type 0 where
  pub within : Within gs word
  pub bits : (v : ℕ → Bool) → bits_at v gs word ≡ f v

-- signals of a word under each assignment
pub record Gives (gs : List Gate) (word : List Signal) (f : (ℕ → Bool) → Bits) : Type 0 where
  pub within : Within gs word
  pub gives : (v : ℕ → Bool) → word_of v gs word ≡ f v

-- signals of a word with every bit turned, over any gates
pub record Complements (word turned : List Signal) : Type 0 where
  pub turns : (gs : List Gate) → Within gs word → Gives gs turned (λ v. op1_value Not (word_of v gs word))

-- a signal that is 1 where a word of one bit is, under each assignment
pub record Tells (gs : List Gate) (s : Signal) (f : (ℕ → Bool) → Bits) : Type 0 where
  pub within : IsBelow (length gs) s
  pub tells : (v : ℕ → Bool) → truth (signal_at v gs s) ≡ f v
