-- The value of an operator on words that it takes is a word, of the operator's width.
use Rattle.std.proofs.Common.{◌≡◌, ℕ, zero, suc, ◌+◌, ◌-◌, ◌*◌, ◌/◌, ◌%◌, ◌<◌, ◌≤◌, ◌^◌, ◌==◌, ◌||◌, Bool, true, false, ℤ, pos, negsuc, ◌*ℤ◌, ◌-ℤ◌, nat_lt, nat_le, int_lt, int_le, int_div, min, bit_and, bit_or, bit_xor, if◌then◌else◌, arith, refl, sym, ap, ◌∙◌, subst, eqb-true}
use Rattle.std.specs.Prelude.{count_ones}
use Rattle.std.specs.Int.Bits.{and_lt}
use Rattle.std.proofs.lemmas.Bool.{leb-true}
use Rattle.std.proofs.lemmas.Nat.{pow_pos, or_lt, xor_lt}
use Rattle.std.proofs.Math.Nat.{mod-lt, mod-le, div-le_self}
use Rattle.knox_words.specs.Bits.{Bits, IsWord, bits, truth, ite_value}
use Rattle.knox_words.specs.Signs.{sg, rest, floor_div}
use Rattle.knox_words.specs.Ops.{op1_value, op2_value, fits2_of, op2_or, op1_width, op2_width, rotation, slice_value, uext_value, sext_value}
use Rattle.knox_words.specs.Lists.{fits}
use Rattle.knox_words.specs.declared.op.Op1.{Op1}
use Rattle.knox_words.specs.declared.op.Op1.TheVariants.{Not, Inc, Dec, Neg, Redand, Redor, Redxor}
use Rattle.knox_words.specs.declared.op.Op2.{Op2}
use Rattle.knox_words.specs.declared.op.Op2.TheVariants as op2
use Rattle.knox_words.proofs.Lists.{fits-IsWord, fits-width, fits-from}
use Rattle.knox_words.proofs.Masks.{rotation_below, joined_below, below_more}

truth-IsWord : (t : Bool) → IsWord (truth t)
truth-IsWord true = record { wide = omega arith; narrow = omega arith; fits = omega arith }
truth-IsWord false = record { wide = omega arith; narrow = omega arith; fits = omega arith }

either-IsWord : (t : Bool) (w m n : ℕ) → IsWord (bits w m) → IsWord (bits w n) → IsWord (bits w (if t then m else n))
either-IsWord true w m n p q = p
either-IsWord false w m n p q = q

rest-below : (z : ℤ) (m : ℕ) → 0 < m → rest z m < m
rest-below (pos n) m h = mod-lt n h
rest-below (negsuc n) m h = omega arith

module _ (w : ℕ) (wide : 1 ≤ w) (narrow : w ≤ 128) where
  below-IsWord : (n : ℕ) → n < 2 ^ w → IsWord (bits w n)
  below-IsWord n h = record { wide = wide; narrow = narrow; fits = h }

  mod-IsWord : (n : ℕ) → IsWord (bits w (n % 2 ^ w))
  mod-IsWord n = below-IsWord (n % 2 ^ w) (mod-lt n (pow_pos w))

  rest-IsWord : (z : ℤ) → IsWord (bits w (rest z (2 ^ w)))
  rest-IsWord z = below-IsWord (rest z (2 ^ w)) (rest-below z (2 ^ w) (pow_pos w))

  zero-IsWord : IsWord (bits w 0)
  zero-IsWord = below-IsWord 0 (pow_pos w)

  one-IsWord : IsWord (bits w 1)
  one-IsWord = below-IsWord 1 (one_below w wide)
    where
      one_below : (k : ℕ) → 1 ≤ k → 1 < 2 ^ k
      one_below zero h = absurd (omega arith)
      one_below (suc k) h = let p : 0 < 2 ^ k = pow_pos k in grind arith

  -- every bit turned
  turned-IsWord : (n : ℕ) → IsWord (bits w (2 ^ w - 1 - n))
  turned-IsWord n = let p : 0 < 2 ^ w = pow_pos w in below-IsWord (2 ^ w - 1 - n) (omega arith)

  ones-IsWord : IsWord (bits w (2 ^ w - 1))
  ones-IsWord = let p : 0 < 2 ^ w = pow_pos w in below-IsWord (2 ^ w - 1) (omega arith)

  div-IsWord : (n m : ℕ) → n < 2 ^ w → IsWord (bits w (n / m))
  div-IsWord n m h = let le : n / m ≤ n = div-le_self n m in below-IsWord (n / m) (omega arith)

  rotation-IsWord : (n m : ℕ) → n < 2 ^ w → IsWord (rotation (bits w n) (m % w))
  rotation-IsWord n m h = let less : m % w < w = mod-lt m wide in below-IsWord _ (rotation_below n w (m % w) h less)

-- the number of a second operand of the same width
same_below : (a b : Bits) → (a.width == b.width) ≡ true → IsWord b → b.value < 2 ^ a.width
same_below a b h q = subst (λ (k : ℕ). b.value < 2 ^ k) (sym (eqb-true a.width b.width h)) q.fits

pub op1_value-IsWord : (o : Op1) (a : Bits) → IsWord a → IsWord (op1_value o a)
op1_value-IsWord Not a p = turned-IsWord a.width p.wide p.narrow a.value
op1_value-IsWord Inc a p = mod-IsWord a.width p.wide p.narrow (a.value + 1)
op1_value-IsWord Dec a p = mod-IsWord a.width p.wide p.narrow (a.value + (2 ^ a.width - 1))
op1_value-IsWord Neg a p = mod-IsWord a.width p.wide p.narrow (2 ^ a.width - a.value)
op1_value-IsWord Redand a p = truth-IsWord (a.value == 2 ^ a.width - 1)
op1_value-IsWord Redor a p = truth-IsWord (nat_lt 0 a.value)
op1_value-IsWord Redxor a p = mod-IsWord 1 (omega arith) (omega arith) (count_ones a.value)

pub op2_value-IsWord : (o : Op2) (a b : Bits) → fits2_of o a.width b.width ≡ true → IsWord a → IsWord b → IsWord (op2_value o a b)
op2_value-IsWord op2.Iff a b h p q = truth-IsWord (a.value == b.value)
op2_value-IsWord op2.Implies a b h p q = truth-IsWord (a.value == 0 || b.value == 1)
op2_value-IsWord op2.Eq a b h p q = truth-IsWord (a.value == b.value)
op2_value-IsWord op2.Neq a b h p q = truth-IsWord (if a.value == b.value then false else true)
op2_value-IsWord op2.Ugt a b h p q = truth-IsWord (nat_lt b.value a.value)
op2_value-IsWord op2.Ugte a b h p q = truth-IsWord (nat_le b.value a.value)
op2_value-IsWord op2.Ult a b h p q = truth-IsWord (nat_lt a.value b.value)
op2_value-IsWord op2.Ulte a b h p q = truth-IsWord (nat_le a.value b.value)
op2_value-IsWord op2.Sgt a b h p q = truth-IsWord (int_lt (sg a.width b.value) (sg a.width a.value))
op2_value-IsWord op2.Sgte a b h p q = truth-IsWord (int_le (sg a.width b.value) (sg a.width a.value))
op2_value-IsWord op2.Slt a b h p q = truth-IsWord (int_lt (sg a.width a.value) (sg a.width b.value))
op2_value-IsWord op2.Slte a b h p q = truth-IsWord (int_le (sg a.width a.value) (sg a.width b.value))
op2_value-IsWord op2.And a b h p q = below-IsWord a.width p.wide p.narrow (bit_and a.value b.value) (and_lt a.width a.value b.value p.fits (same_below a b h q))
op2_value-IsWord op2.Nand a b h p q = turned-IsWord a.width p.wide p.narrow (bit_and a.value b.value)
op2_value-IsWord op2.Nor a b h p q = turned-IsWord a.width p.wide p.narrow (bit_or a.value b.value)
op2_value-IsWord op2.Or a b h p q = below-IsWord a.width p.wide p.narrow (bit_or a.value b.value) (or_lt a.width a.value b.value p.fits (same_below a b h q))
op2_value-IsWord op2.Xnor a b h p q = turned-IsWord a.width p.wide p.narrow (bit_xor a.value b.value)
op2_value-IsWord op2.Xor a b h p q = below-IsWord a.width p.wide p.narrow (bit_xor a.value b.value) (xor_lt a.width a.value b.value p.fits (same_below a b h q))
op2_value-IsWord op2.Sll a b h p q =
    either-IsWord (nat_lt b.value a.width) a.width _ 0 (mod-IsWord a.width p.wide p.narrow (a.value * 2 ^ b.value)) (zero-IsWord a.width p.wide p.narrow)
op2_value-IsWord op2.Srl a b h p q =
    either-IsWord (nat_lt b.value a.width) a.width _ 0 (div-IsWord a.width p.wide p.narrow a.value (2 ^ b.value) p.fits) (zero-IsWord a.width p.wide p.narrow)
op2_value-IsWord op2.Sra a b h p q = rest-IsWord a.width p.wide p.narrow (floor_div (sg a.width a.value) (pos (2 ^ min b.value a.width)))
op2_value-IsWord op2.Rol a b h p q = rotation-IsWord a.width p.wide p.narrow a.value b.value p.fits
op2_value-IsWord op2.Ror a b h p q = rotation-IsWord a.width p.wide p.narrow a.value (a.width - b.value % a.width) p.fits
op2_value-IsWord op2.Add a b h p q = mod-IsWord a.width p.wide p.narrow (a.value + b.value)
op2_value-IsWord op2.Sub a b h p q = mod-IsWord a.width p.wide p.narrow (a.value + (2 ^ a.width - b.value))
op2_value-IsWord op2.Mul a b h p q = mod-IsWord a.width p.wide p.narrow (a.value * b.value)
op2_value-IsWord op2.Udiv a b h p q =
    either-IsWord (b.value == 0) a.width _ _ (ones-IsWord a.width p.wide p.narrow) (div-IsWord a.width p.wide p.narrow a.value b.value p.fits)
op2_value-IsWord op2.Sdiv a b h p q =
    either-IsWord (b.value == 0) a.width _ _
    (either-IsWord (nat_lt a.value (2 ^ (a.width - 1))) a.width _ _ (ones-IsWord a.width p.wide p.narrow) (one-IsWord a.width p.wide p.narrow))
    (rest-IsWord a.width p.wide p.narrow (int_div (sg a.width a.value) (sg a.width b.value)))
op2_value-IsWord op2.Urem a b h p q =
    let le : a.value % b.value ≤ a.value = mod-le a.value b.value in
    let below : a.value < 2 ^ a.width = p.fits in
    either-IsWord (b.value == 0) a.width a.value _ p (below-IsWord a.width p.wide p.narrow (a.value % b.value) (omega arith))
op2_value-IsWord op2.Srem a b h p q =
    either-IsWord (b.value == 0) a.width a.value _ p (rest-IsWord a.width p.wide p.narrow (sg a.width a.value -ℤ (sg a.width b.value *ℤ int_div (sg a.width a.value) (sg a.width b.value))))
op2_value-IsWord op2.Smod a b h p q =
    either-IsWord (b.value == 0) a.width a.value _ p (rest-IsWord a.width p.wide p.narrow (sg a.width a.value -ℤ (sg a.width b.value *ℤ floor_div (sg a.width a.value) (sg a.width b.value))))
op2_value-IsWord op2.Concat a b h p q =
    let le : a.width + b.width ≤ 128 = leb-true (a.width + b.width) 128 h in
    let wide : 1 ≤ a.width = p.wide in
    below-IsWord (a.width + b.width) (omega arith) le (a.value * 2 ^ b.width + b.value) (joined_below a.value b.value a.width b.width p.fits q.fits)

pub slice_value-IsWord : (a : Bits) (high low : ℕ) → low ≤ high → high < a.width → IsWord a → IsWord (slice_value a high low)
slice_value-IsWord a high low order within p =
    let narrow : a.width ≤ 128 = p.narrow in
    mod-IsWord (high - low + 1) (omega arith) (omega arith) (a.value / 2 ^ low)

pub uext_value-IsWord : (a : Bits) (n : ℕ) → a.width + n ≤ 128 → IsWord a → IsWord (uext_value a n)
uext_value-IsWord a n le p =
    let wide : 1 ≤ a.width = p.wide in
    below-IsWord (a.width + n) (omega arith) le a.value (below_more a.value a.width (a.width + n) p.fits (omega arith))

pub sext_value-IsWord : (a : Bits) (n : ℕ) → a.width + n ≤ 128 → IsWord a → IsWord (sext_value a n)
sext_value-IsWord a n le p =
    let wide : 1 ≤ a.width = p.wide in
    rest-IsWord (a.width + n) (omega arith) le (sg a.width a.value)

pub op1_value-width : (o : Op1) (a : Bits) → (op1_value o a).width ≡ op1_width o a.width
op1_value-width Not a = refl
op1_value-width Inc a = refl
op1_value-width Dec a = refl
op1_value-width Neg a = refl
op1_value-width Redand a = refl
op1_value-width Redor a = refl
op1_value-width Redxor a = refl

pub op2_value-width : (o : Op2) (a b : Bits) → (op2_value o a b).width ≡ op2_width o a.width b.width
op2_value-width op2.Iff a b = refl
op2_value-width op2.Implies a b = refl
op2_value-width op2.Eq a b = refl
op2_value-width op2.Neq a b = refl
op2_value-width op2.Ugt a b = refl
op2_value-width op2.Ugte a b = refl
op2_value-width op2.Ult a b = refl
op2_value-width op2.Ulte a b = refl
op2_value-width op2.Sgt a b = refl
op2_value-width op2.Sgte a b = refl
op2_value-width op2.Slt a b = refl
op2_value-width op2.Slte a b = refl
op2_value-width op2.And a b = refl
op2_value-width op2.Nand a b = refl
op2_value-width op2.Nor a b = refl
op2_value-width op2.Or a b = refl
op2_value-width op2.Xnor a b = refl
op2_value-width op2.Xor a b = refl
op2_value-width op2.Sll a b = refl
op2_value-width op2.Srl a b = refl
op2_value-width op2.Sra a b = refl
op2_value-width op2.Rol a b = refl
op2_value-width op2.Ror a b = refl
op2_value-width op2.Add a b = refl
op2_value-width op2.Sub a b = refl
op2_value-width op2.Mul a b = refl
op2_value-width op2.Udiv a b = refl
op2_value-width op2.Sdiv a b = refl
op2_value-width op2.Urem a b = refl
op2_value-width op2.Srem a b = refl
op2_value-width op2.Smod a b = refl
op2_value-width op2.Concat a b = refl

-- the same for words that fit widths

pub op1_value-fits : (o : Op1) (w : ℕ) (a : Bits) → fits w a ≡ true → fits (op1_width o w) (op1_value o a) ≡ true
op1_value-fits o w a h =
    let width : (op1_value o a).width ≡ op1_width o w = op1_value-width o a ∙ ap (λ (k : ℕ). op1_width o k) (fits-width w a h) in
    fits-from (op1_width o w) (op1_value o a) width (op1_value-IsWord o a (fits-IsWord w a h))

pub fits2_of-widths : (o : Op2) (w v : ℕ) (a b : Bits) → fits2_of o w v ≡ true → fits w a ≡ true → fits v b ≡ true → fits2_of o a.width b.width ≡ true
fits2_of-widths o w v a b h p q =
    subst (λ (k : ℕ). fits2_of o a.width k ≡ true) (sym (fits-width v b q)) (subst (λ (k : ℕ). fits2_of o k v ≡ true) (sym (fits-width w a p)) h)

pub op2_value-fits : (o : Op2) (w v : ℕ) (a b : Bits) → fits2_of o w v ≡ true → fits w a ≡ true → fits v b ≡ true → fits (op2_width o w v) (op2_value o a b) ≡ true
op2_value-fits o w v a b h p q =
    let first : op2_width o a.width b.width ≡ op2_width o w b.width = ap (λ (k : ℕ). op2_width o k b.width) (fits-width w a p) in
    let second : op2_width o w b.width ≡ op2_width o w v = ap (λ (k : ℕ). op2_width o w k) (fits-width v b q) in
    let taken : fits2_of o a.width b.width ≡ true = fits2_of-widths o w v a b h p q in
    fits-from (op2_width o w v) (op2_value o a b) (op2_value-width o a b ∙ (first ∙ second)) (op2_value-IsWord o a b taken (fits-IsWord w a p) (fits-IsWord v b q))

pub op2_or-value : (o : Op2) (a b : Bits) → fits2_of o a.width b.width ≡ true → op2_or o a b ≡ op2_value o a b
op2_or-value o a b h = rw h refl

pub op2_or-fits : (o : Op2) (w v : ℕ) (a b : Bits) → fits2_of o w v ≡ true → fits w a ≡ true → fits v b ≡ true → fits (op2_width o w v) (op2_or o a b) ≡ true
op2_or-fits o w v a b h p q =
    subst (λ (x : Bits). fits (op2_width o w v) x ≡ true) (sym (op2_or-value o a b (fits2_of-widths o w v a b h p q))) (op2_value-fits o w v a b h p q)

pub ite_value-fits : (w : ℕ) (c a b : Bits) → fits w a ≡ true → fits w b ≡ true → fits w (ite_value c a b) ≡ true
ite_value-fits w c a b p q = by_test (c.value == 1)
  where
    by_test : (t : Bool) → fits w (if t then a else b) ≡ true
    by_test true = p
    by_test false = q
