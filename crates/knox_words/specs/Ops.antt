-- What the operators on words mean, as formulas over whole numbers. Below, w is the width of a, and
-- a word that an operator takes has a number below 2 ^ w.
-- Standard: BTOR2 (Niemetz, Preiner, Wolf and Biere, CAV 2018) names the operators, and SMT-LIB's
-- theory FixedSizeBitVectors has the division by zero: bvudiv all ones, bvurem the dividend.
-- The project's own: a rotation takes its amount from a word, modulo the width, and what stands for
-- an operator on words that it does not take (the functions ending in _or).
use Rattle.std.specs.Prelude.{ℕ, ◌+◌, ◌-◌, ◌*◌, ◌/◌, ◌%◌, ◌^◌, ◌==◌, pos, ◌*ℤ◌, ◌-ℤ◌, int_div, int_lt, int_le, nat_lt, nat_le, min, Bool, true, false, ◌&&◌, ◌||◌, if◌then◌else◌, bit_and, bit_or, bit_xor, count_ones}
use Rattle.knox_words.specs.Bits.{Bits, bits, truth, and_value}
use Rattle.knox_words.specs.Signs.{sg, rest, floor_div}
use Rattle.knox_words.specs.declared.op.Op1.{Op1}
use Rattle.knox_words.specs.declared.op.Op1.TheVariants.{Not, Inc, Dec, Neg, Redand, Redor, Redxor}
use Rattle.knox_words.specs.declared.op.Op2.{Op2}
use Rattle.knox_words.specs.declared.op.Op2.TheVariants as op2

abbrev pub op1_value : Op1 → Bits → Bits
-- every bit turned
op1_value Not a = bits a.width (2 ^ a.width - 1 - a.value)
-- one more, one less, and the negative, modulo 2 ^ w
op1_value Inc a = bits a.width ((a.value + 1) % 2 ^ a.width)
op1_value Dec a = bits a.width ((a.value + (2 ^ a.width - 1)) % 2 ^ a.width)
op1_value Neg a = bits a.width ((2 ^ a.width - a.value) % 2 ^ a.width)
-- whether all bits are 1, whether one is, and whether an odd number is
op1_value Redand a = truth (a.value == 2 ^ a.width - 1)
op1_value Redor a = truth (nat_lt 0 a.value)
op1_value Redxor a = bits 1 (count_ones a.value % 2)

-- the word rotated left by r places, r below its width
abbrev pub rotation : Bits → ℕ → Bits
rotation a r = bits a.width ((a.value * 2 ^ r) % 2 ^ a.width + a.value / 2 ^ (a.width - r))

-- read with a sign, the quotient by 2 ^ b rounded down, modulo 2 ^ w; from b = w on it no longer changes
abbrev pub sra_value : Bits → Bits → Bits
sra_value a b = bits a.width (rest (floor_div (sg a.width a.value) (pos (2 ^ min b.value a.width))) (2 ^ a.width))

-- read with signs, the quotient rounded towards zero, modulo 2 ^ w; by zero 1 where a is below zero and else all ones
abbrev pub sdiv_value : Bits → Bits → Bits
sdiv_value a b = bits a.width (
    if b.value == 0 then (if nat_lt a.value (2 ^ (a.width - 1)) then 2 ^ a.width - 1 else 1)
    else rest (int_div (sg a.width a.value) (sg a.width b.value)) (2 ^ a.width))

-- read with signs, what is left of a after the quotient rounded towards zero, modulo 2 ^ w; by zero a
abbrev pub srem_value : Bits → Bits → Bits
srem_value a b = bits a.width (
    if b.value == 0 then a.value
    else rest (sg a.width a.value -ℤ (sg a.width b.value *ℤ int_div (sg a.width a.value) (sg a.width b.value))) (2 ^ a.width))

-- read with signs, what is left of a after the quotient rounded down, modulo 2 ^ w; by zero a
abbrev pub smod_value : Bits → Bits → Bits
smod_value a b = bits a.width (
    if b.value == 0 then a.value
    else rest (sg a.width a.value -ℤ (sg a.width b.value *ℤ floor_div (sg a.width a.value) (sg a.width b.value))) (2 ^ a.width))

abbrev pub op2_value : Op2 → Bits → Bits → Bits
-- of bits: whether they are equal, and whether b is 1 where a is
op2_value op2.Iff a b = truth (a.value == b.value)
op2_value op2.Implies a b = truth (a.value == 0 || b.value == 1)
-- comparisons of the numbers
op2_value op2.Eq a b = truth (a.value == b.value)
op2_value op2.Neq a b = truth (if a.value == b.value then false else true)
op2_value op2.Ugt a b = truth (nat_lt b.value a.value)
op2_value op2.Ugte a b = truth (nat_le b.value a.value)
op2_value op2.Ult a b = truth (nat_lt a.value b.value)
op2_value op2.Ulte a b = truth (nat_le a.value b.value)
-- comparisons, read with signs
op2_value op2.Sgt a b = truth (int_lt (sg a.width b.value) (sg a.width a.value))
op2_value op2.Sgte a b = truth (int_le (sg a.width b.value) (sg a.width a.value))
op2_value op2.Slt a b = truth (int_lt (sg a.width a.value) (sg a.width b.value))
op2_value op2.Slte a b = truth (int_le (sg a.width a.value) (sg a.width b.value))
-- bit by bit, and the complements
op2_value op2.And a b = and_value a b
op2_value op2.Nand a b = bits a.width (2 ^ a.width - 1 - bit_and a.value b.value)
op2_value op2.Nor a b = bits a.width (2 ^ a.width - 1 - bit_or a.value b.value)
op2_value op2.Or a b = bits a.width (bit_or a.value b.value)
op2_value op2.Xnor a b = bits a.width (2 ^ a.width - 1 - bit_xor a.value b.value)
op2_value op2.Xor a b = bits a.width (bit_xor a.value b.value)
-- the product with 2 ^ b modulo 2 ^ w, and the quotient by 2 ^ b rounded down, both 0 from b = w on
op2_value op2.Sll a b = bits a.width (if nat_lt b.value a.width then (a.value * 2 ^ b.value) % 2 ^ a.width else 0)
op2_value op2.Srl a b = bits a.width (if nat_lt b.value a.width then a.value / 2 ^ b.value else 0)
op2_value op2.Sra a b = sra_value a b
-- rotations left by b modulo w, and by w less that
op2_value op2.Rol a b = rotation a (b.value % a.width)
op2_value op2.Ror a b = rotation a ((a.width - b.value % a.width) % a.width)
-- the sum, the difference and the product, modulo 2 ^ w
op2_value op2.Add a b = bits a.width ((a.value + b.value) % 2 ^ a.width)
op2_value op2.Sub a b = bits a.width ((a.value + (2 ^ a.width - b.value)) % 2 ^ a.width)
op2_value op2.Mul a b = bits a.width ((a.value * b.value) % 2 ^ a.width)
-- the quotient rounded down, by zero all ones, and the remainder, by zero a
op2_value op2.Udiv a b = bits a.width (if b.value == 0 then 2 ^ a.width - 1 else a.value / b.value)
op2_value op2.Sdiv a b = sdiv_value a b
op2_value op2.Urem a b = bits a.width (if b.value == 0 then a.value else a.value % b.value)
op2_value op2.Srem a b = srem_value a b
op2_value op2.Smod a b = smod_value a b
-- the bits of a, and then those of b
op2_value op2.Concat a b = bits (a.width + b.width) (a.value * 2 ^ b.width + b.value)

-- whether an operator takes words of widths a and b
abbrev pub fits2_of : Op2 → ℕ → ℕ → Bool
fits2_of op2.Iff a b = a == 1 && b == 1
fits2_of op2.Implies a b = a == 1 && b == 1
fits2_of op2.Concat a b = nat_le (a + b) 128
fits2_of _ a b = a == b

-- the bits of a from high down to low, bit 0 the lowest
abbrev pub slice_value : Bits → ℕ → ℕ → Bits
slice_value a high low = bits (high - low + 1) (a.value / 2 ^ low % 2 ^ (high - low + 1))

-- the same number in n bits more
abbrev pub uext_value : Bits → ℕ → Bits
uext_value a n = bits (a.width + n) a.value

-- the same number, read with a sign, in n bits more
abbrev pub sext_value : Bits → ℕ → Bits
sext_value a n = bits (a.width + n) (rest (sg a.width a.value) (2 ^ (a.width + n)))

-- op2_value of words that the operator takes, and else the zero word
abbrev pub op2_or : Op2 → Bits → Bits → Bits
op2_or o a b = if fits2_of o a.width b.width then op2_value o a b else bits 1 0

-- slice_value where low is at most high and high below the width, and else the zero word
abbrev pub slice_or : Bits → ℕ → ℕ → Bits
slice_or a high low = if nat_le low high && nat_lt high a.width then slice_value a high low else bits 1 0

-- sext_value up to a width of 128, and else the zero word
abbrev pub sext_or : Bits → ℕ → Bits
sext_or a n = if nat_le (a.width + n) 128 then sext_value a n else bits 1 0

-- uext_value up to a width of 128, and else the zero word
abbrev pub uext_or : Bits → ℕ → Bits
uext_or a n = if nat_le (a.width + n) 128 then uext_value a n else bits 1 0

-- the width of the value of an operator on a word of width w
abbrev pub op1_width : Op1 → ℕ → ℕ
op1_width Redand w = 1
op1_width Redor w = 1
op1_width Redxor w = 1
op1_width _ w = w

-- the width of the value of an operator on words of widths w and v
abbrev pub op2_width : Op2 → ℕ → ℕ → ℕ
op2_width op2.Iff w v = 1
op2_width op2.Implies w v = 1
op2_width op2.Eq w v = 1
op2_width op2.Neq w v = 1
op2_width op2.Ugt w v = 1
op2_width op2.Ugte w v = 1
op2_width op2.Ult w v = 1
op2_width op2.Ulte w v = 1
op2_width op2.Sgt w v = 1
op2_width op2.Sgte w v = 1
op2_width op2.Slt w v = 1
op2_width op2.Slte w v = 1
op2_width op2.Concat w v = w + v
op2_width _ w v = w
