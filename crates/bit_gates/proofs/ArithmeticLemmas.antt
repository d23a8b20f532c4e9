-- What words sums and differences are.
use Rattle.std.proofs.Common.{◌≡◌, ℕ, suc, ◌+◌, ◌-◌, ◌*◌, ◌%◌, ◌^◌, Bool, true, false, not, List, [], ◌∷◌, length, map, refl, sym, ◌∙◌, ap, arith, if◌then◌else◌, add-zero}
use Rattle.knox_words.specs.Bits.{bits}
use Rattle.knox_words.specs.Ops.{op1_value, op2_value}
use Rattle.knox_words.specs.declared.op.Op1.TheVariants as op1
use Rattle.knox_words.specs.declared.op.Op2.TheVariants as op2
use Rattle.bit_gates.specs.declared.signal.Signal.{Signal}
use Rattle.bit_gates.specs.declared.signal.Signal.TheVariants.{Constant}
use Rattle.bit_gates.specs.declared.signal.Gate.{Gate}
use Rattle.bit_gates.specs.Gates.{signal_at, opposite}
use Rattle.bit_gates.specs.Words.{number, bits_at, word_of, Within, Spells, Gives}
use Rattle.bit_gates.specs.Sums.{add_bits}
use Rattle.bit_gates.proofs.WordLemmas.{length-bits, same-lengths, gives-spelled, bits-opposite, bits-constant, within-opposite, within-constant, length-signals}
use Rattle.bit_gates.proofs.NumberLemmas.{number-sum, number-not, length-add_bits}

-- the word of a sum of bits
spelled-sum : (old new : List Gate) (start : Bool) (a r : List Signal) (ys : (ℕ → Bool) → List Bool) (n : (ℕ → Bool) → ℕ) → ((v : ℕ → Bool) → length (bits_at v old a) ≡ length (ys v)) → Spells new r (λ v. add_bits start (bits_at v old a) (ys v)) → ((v : ℕ → Bool) → (number (bits_at v old a) + number (ys v) + (if start then 1 else 0)) % 2 ^ length a ≡ n v) → Gives new r (λ v. bits (length a) (n v))
spelled-sum old new start a r ys n e s is = gives-spelled new r (λ v. add_bits start (bits_at v old a) (ys v)) (λ v. length a) n s
    (λ v. length-add_bits start (bits_at v old a) (ys v) (e v) ∙ length-bits (signal_at v old) a)
    (λ v. number-sum start (bits_at v old a) (ys v) (e v) ∙ (ap (λ k. (number (bits_at v old a) + number (ys v) + (if start then 1 else 0)) % 2 ^ k) (length-bits (signal_at v old) a) ∙ is v))

pub gives-sum : (old new : List Gate) (a b r : List Signal) → length a ≡ length b → Spells new r (λ v. add_bits false (bits_at v old a) (bits_at v old b)) → Gives new r (λ v. op2_value op2.Add (word_of v old a) (word_of v old b))
gives-sum old new a b r e s = spelled-sum old new false a r (λ v. bits_at v old b) (λ v. (number (bits_at v old a) + number (bits_at v old b)) % 2 ^ length a) (λ v. same-lengths (signal_at v old) a b e) s
    (λ v. ap (λ k. k % 2 ^ length a) (add-zero (number (bits_at v old a) + number (bits_at v old b))))

pub length-turned : (a b t : List Signal) → length a ≡ length b → t ≡ map opposite b → length a ≡ length t
length-turned a b t e is = e ∙ (sym (length-signals opposite b) ∙ ap length (sym is))

pub within-turned : (gs : List Gate) (b t : List Signal) → t ≡ map opposite b → Within gs b → Within gs t
within-turned gs b t is w = rw is (within-opposite gs b w)

pub gives-difference : (old new : List Gate) (a b t r : List Signal) → length a ≡ length b → t ≡ map opposite b → Spells new r (λ v. add_bits true (bits_at v old a) (bits_at v old t)) → Gives new r (λ v. op2_value op2.Sub (word_of v old a) (word_of v old b))
gives-difference old new a b t r e is s = spelled-sum old new true a r (λ v. bits_at v old t) (λ v. (number (bits_at v old a) + (2 ^ length a - number (bits_at v old b))) % 2 ^ length a)
    (λ v. same-lengths (signal_at v old) a t (length-turned a b t e is))
    s
    (λ v.
    let turned : bits_at v old t ≡ map not (bits_at v old b) = ap (bits_at v old) is ∙ bits-opposite v old b in
    let n : number (map not (bits_at v old b)) + number (bits_at v old b) + 1 ≡ 2 ^ length (bits_at v old b) = number-not (bits_at v old b) in
    let l : length (bits_at v old b) ≡ length a = length-bits (signal_at v old) b ∙ sym e in
    let m : number (bits_at v old t) + number (bits_at v old b) + 1 ≡ 2 ^ length a = ap (λ xs. number xs + number (bits_at v old b) + 1) turned ∙ (n ∙ ap (λ k. 2 ^ k) l) in
    ap (λ k. k % 2 ^ length a) (less (number (bits_at v old a)) (number (bits_at v old t)) (number (bits_at v old b)) (2 ^ length a) m))
  where
    less : (n k m p : ℕ) → k + m + 1 ≡ p → n + k + 1 ≡ n + (p - m)
    less n k m p e = omega (arith, e)

pub length-constant : (b : Bool) (a z : List Signal) → z ≡ map (λ s. Constant b) a → length z ≡ length a
length-constant b a z e = ap length e ∙ length-signals (λ s. Constant b) a

pub length-constant_behind : (b : Bool) (a z : List Signal) → z ≡ map (λ s. Constant b) a → length a ≡ length z
length-constant_behind b a z e = sym (length-constant b a z e)

pub within-constants : (gs : List Gate) (b : Bool) (a z : List Signal) → z ≡ map (λ s. Constant b) a → Within gs a → Within gs z
within-constants gs b a z e w = rw e (within-constant gs b a w)

number-zeros : (ls : List Signal) → number (map (λ s. false) ls) ≡ 0
number-zeros [] = refl
number-zeros (l ∷ ls) = omega (arith, number-zeros ls)

number-ones : (ls : List Signal) → number (map (λ s. true) ls) + 1 ≡ 2 ^ length ls
number-ones [] = refl
number-ones (l ∷ ls) =
    let p : 2 ^ suc (length ls) ≡ 2 * 2 ^ length ls = omega arith in
    rw p (omega (arith, number-ones ls))

zero-number : (v : ℕ → Bool) (gs : List Gate) (a z : List Signal) → z ≡ map (λ s. Constant false) a → number (bits_at v gs z) ≡ 0
zero-number v gs a z e = ap (λ ls. number (bits_at v gs ls)) e ∙ (ap number (bits-constant v gs false a) ∙ number-zeros a)

ones-number : (v : ℕ → Bool) (gs : List Gate) (a z : List Signal) → z ≡ map (λ s. Constant true) a → number (bits_at v gs z) ≡ 2 ^ length a - 1
ones-number v gs a z e =
    let n : number (map (λ s. true) a) ≡ 2 ^ length a - 1 = omega (arith, number-ones a) in
    ap (λ ls. number (bits_at v gs ls)) e ∙ (ap number (bits-constant v gs true a) ∙ n)

pub gives-negated : (old new : List Gate) (a z r : List Signal) → z ≡ map (λ s. Constant false) a → Gives new r (λ v. op2_value op2.Sub (word_of v old z) (word_of v old a)) → Gives new r (λ v. op1_value op1.Neg (word_of v old a))
gives-negated old new a z r e g = record {
  within = g.within;
  gives = λ v.
      let n : number (bits_at v old z) + (2 ^ length z - number (bits_at v old a)) ≡ 2 ^ length z - number (bits_at v old a) = omega (arith, zero-number v old a z e) in
      g.gives v
      ∙ (ap (λ k. bits (length z) (k % 2 ^ length z)) n
      ∙ ap (λ k. bits k ((2 ^ k - number (bits_at v old a)) % 2 ^ k)) (length-constant false a z e));
}

pub gives-incremented : (old new : List Gate) (a z r : List Signal) → z ≡ map (λ s. Constant false) a → Spells new r (λ v. add_bits true (bits_at v old a) (bits_at v old z)) → Gives new r (λ v. op1_value op1.Inc (word_of v old a))
gives-incremented old new a z r e s = spelled-sum old new true a r (λ v. bits_at v old z) (λ v. (number (bits_at v old a) + 1) % 2 ^ length a)
    (λ v. same-lengths (signal_at v old) a z (length-constant_behind false a z e))
    s
    (λ v.
    let n : number (bits_at v old a) + number (bits_at v old z) + 1 ≡ number (bits_at v old a) + 1 = omega (arith, zero-number v old a z e) in
    ap (λ k. k % 2 ^ length a) n)

pub gives-decremented : (old new : List Gate) (a z r : List Signal) → z ≡ map (λ s. Constant true) a → Gives new r (λ v. op2_value op2.Add (word_of v old a) (word_of v old z)) → Gives new r (λ v. op1_value op1.Dec (word_of v old a))
gives-decremented old new a z r e g = record {
  within = g.within;
  gives = λ v. g.gives v ∙ ap (λ k. bits (length a) ((number (bits_at v old a) + k) % 2 ^ length a)) (ones-number v old a z e);
}
