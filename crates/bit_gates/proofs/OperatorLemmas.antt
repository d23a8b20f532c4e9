-- What words the operators' signals are.
use Rattle.std.proofs.Common.{◌≡◌, ℕ, ◌-◌, ◌^◌, Bool, true, false, not, List, length, map, refl, ◌∙◌, ap, if◌then◌else◌, bit_and, bit_or, bit_xor}
use Rattle.knox_words.specs.Bits.{bits, truth, ite_value}
use Rattle.knox_words.specs.Ops.{op2_value}
use Rattle.knox_words.specs.declared.op.Op2.TheVariants as op2
use Rattle.bit_gates.specs.declared.signal.Signal.{Signal}
use Rattle.bit_gates.specs.declared.signal.Gate.{Gate}
use Rattle.bit_gates.specs.declared.pairs.Pair.{Pair}
use Rattle.bit_gates.specs.declared.pairs.Pair.TheVariants as pair
use Rattle.bit_gates.specs.Gates.{signal_at, opposite}
use Rattle.bit_gates.specs.Words.{number, bits_at, word_of, Spells, Gives, Complements}
use Rattle.bit_gates.specs.Pairs.{pair_bits}
use Rattle.bit_gates.proofs.WordLemmas.{length-bits, same-lengths, word-spelled, gives-spelled, spells-opposite, spells-itself}
use Rattle.bit_gates.proofs.NumberLemmas.{number-and, number-or, number-xor, number-complement, length-pair_bits, length-not, picked}

-- the complement of bits of a length and a number
gives-turned : (gs : List Gate) (ls r : List Signal) (f : (ℕ → Bool) → List Bool) (w n : (ℕ → Bool) → ℕ) → r ≡ map opposite ls → Spells gs ls f → ((v : ℕ → Bool) → length (f v) ≡ w v) → ((v : ℕ → Bool) → number (f v) ≡ n v) → Gives gs r (λ v. bits (w v) (2 ^ w v - 1 - n v))
gives-turned gs ls r f w n e s wide is = gives-spelled gs r (λ v. map not (f v)) w (λ v. 2 ^ w v - 1 - n v) (spells-opposite gs ls r f e s)
    (λ v. length-not (f v) ∙ wide v)
    (λ v. number-complement (f v) ∙ (ap (λ k. 2 ^ k - 1 - number (f v)) (wide v) ∙ ap (λ k. 2 ^ w v - 1 - k) (is v)))

pub complements-not : (a r : List Signal) → r ≡ map opposite a → Complements a r
complements-not a r e = record { turns = λ gs w. gives-turned gs a r (λ v. bits_at v gs a) (λ v. length a) (λ v. number (bits_at v gs a)) e (spells-itself gs a w) (λ v. length-bits (signal_at v gs) a) (λ v. refl) }

pair-wide : (old : List Gate) (p : Pair) (a b : List Signal) → length a ≡ length b → (v : ℕ → Bool) → length (pair_bits (signal_at v old) p (bits_at v old a) (bits_at v old b)) ≡ length a
pair-wide old p a b e v = length-pair_bits (signal_at v old) p (bits_at v old a) (bits_at v old b) (same-lengths (signal_at v old) a b e) ∙ length-bits (signal_at v old) a

pub gives-and : (old new : List Gate) (a b r : List Signal) → length a ≡ length b → Spells new r (λ v. pair_bits (signal_at v old) pair.And (bits_at v old a) (bits_at v old b)) → Gives new r (λ v. op2_value op2.And (word_of v old a) (word_of v old b))
gives-and old new a b r e s = gives-spelled new r (λ v. pair_bits (signal_at v old) pair.And (bits_at v old a) (bits_at v old b)) (λ v. length a) (λ v. bit_and (number (bits_at v old a)) (number (bits_at v old b))) s (pair-wide old pair.And a b e) (λ v. number-and (signal_at v old) (bits_at v old a) (bits_at v old b) (same-lengths (signal_at v old) a b e))

pub gives-nand : (old new : List Gate) (a b ls r : List Signal) → length a ≡ length b → Spells new ls (λ v. pair_bits (signal_at v old) pair.And (bits_at v old a) (bits_at v old b)) → r ≡ map opposite ls → Gives new r (λ v. op2_value op2.Nand (word_of v old a) (word_of v old b))
gives-nand old new a b ls r e s t = gives-turned new ls r (λ v. pair_bits (signal_at v old) pair.And (bits_at v old a) (bits_at v old b)) (λ v. length a) (λ v. bit_and (number (bits_at v old a)) (number (bits_at v old b))) t s (pair-wide old pair.And a b e) (λ v. number-and (signal_at v old) (bits_at v old a) (bits_at v old b) (same-lengths (signal_at v old) a b e))

pub gives-or : (old new : List Gate) (a b r : List Signal) → length a ≡ length b → Spells new r (λ v. pair_bits (signal_at v old) pair.Or (bits_at v old a) (bits_at v old b)) → Gives new r (λ v. op2_value op2.Or (word_of v old a) (word_of v old b))
gives-or old new a b r e s = gives-spelled new r (λ v. pair_bits (signal_at v old) pair.Or (bits_at v old a) (bits_at v old b)) (λ v. length a) (λ v. bit_or (number (bits_at v old a)) (number (bits_at v old b))) s (pair-wide old pair.Or a b e) (λ v. number-or (signal_at v old) (bits_at v old a) (bits_at v old b) (same-lengths (signal_at v old) a b e))

pub gives-nor : (old new : List Gate) (a b ls r : List Signal) → length a ≡ length b → Spells new ls (λ v. pair_bits (signal_at v old) pair.Or (bits_at v old a) (bits_at v old b)) → r ≡ map opposite ls → Gives new r (λ v. op2_value op2.Nor (word_of v old a) (word_of v old b))
gives-nor old new a b ls r e s t = gives-turned new ls r (λ v. pair_bits (signal_at v old) pair.Or (bits_at v old a) (bits_at v old b)) (λ v. length a) (λ v. bit_or (number (bits_at v old a)) (number (bits_at v old b))) t s (pair-wide old pair.Or a b e) (λ v. number-or (signal_at v old) (bits_at v old a) (bits_at v old b) (same-lengths (signal_at v old) a b e))

pub gives-xor : (old new : List Gate) (a b r : List Signal) → length a ≡ length b → Spells new r (λ v. pair_bits (signal_at v old) pair.Xor (bits_at v old a) (bits_at v old b)) → Gives new r (λ v. op2_value op2.Xor (word_of v old a) (word_of v old b))
gives-xor old new a b r e s = gives-spelled new r (λ v. pair_bits (signal_at v old) pair.Xor (bits_at v old a) (bits_at v old b)) (λ v. length a) (λ v. bit_xor (number (bits_at v old a)) (number (bits_at v old b))) s (pair-wide old pair.Xor a b e) (λ v. number-xor (signal_at v old) (bits_at v old a) (bits_at v old b) (same-lengths (signal_at v old) a b e))

pub gives-xnor : (old new : List Gate) (a b ls r : List Signal) → length a ≡ length b → Spells new ls (λ v. pair_bits (signal_at v old) pair.Xor (bits_at v old a) (bits_at v old b)) → r ≡ map opposite ls → Gives new r (λ v. op2_value op2.Xnor (word_of v old a) (word_of v old b))
gives-xnor old new a b ls r e s t = gives-turned new ls r (λ v. pair_bits (signal_at v old) pair.Xor (bits_at v old a) (bits_at v old b)) (λ v. length a) (λ v. bit_xor (number (bits_at v old a)) (number (bits_at v old b))) t s (pair-wide old pair.Xor a b e) (λ v. number-xor (signal_at v old) (bits_at v old a) (bits_at v old b) (same-lengths (signal_at v old) a b e))

pub gives-choice : (old new : List Gate) (a b r : List Signal) (c : Signal) → length a ≡ length b → Spells new r (λ v. pair_bits (signal_at v old) (pair.Choose c) (bits_at v old a) (bits_at v old b)) → Gives new r (λ v. ite_value (truth (signal_at v old c)) (word_of v old a) (word_of v old b))
gives-choice old new a b r c e s = record {
  within = s.within;
  gives = λ v.
      word-spelled new r (λ u. pair_bits (signal_at u old) (pair.Choose c) (bits_at u old a) (bits_at u old b)) s v
      ∙ (ap (λ k. bits k (number (pair_bits (signal_at v old) (pair.Choose c) (bits_at v old a) (bits_at v old b)))) (pair-wide old (pair.Choose c) a b e v)
      ∙ (ap (λ bs. bits (length a) (number bs)) (picked (signal_at v old) c (bits_at v old a) (bits_at v old b) (same-lengths (signal_at v old) a b e))
      ∙ chosen (signal_at v old c) (bits_at v old a) (bits_at v old b) (length a) (length b) e));
}
  where
    chosen : (t : Bool) (xs ys : List Bool) (k j : ℕ) → k ≡ j → bits k (number (if t then xs else ys)) ≡ ite_value (truth t) (bits k (number xs)) (bits j (number ys))
    chosen true xs ys k j e = refl
    chosen false xs ys k j e = ap (λ n. bits n (number ys)) e
