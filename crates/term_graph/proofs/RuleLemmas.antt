-- Each rule keeps the operator's value.
use Rattle.std.proofs.Common.{◌≡◌, ℕ, zero, suc, ◌+◌, ◌-◌, ◌*◌, ◌/◌, ◌%◌, ◌^◌, ◌<◌, ◌==◌, ◌||◌, nat_lt, bit_and, bit_or, bit_xor, Bool, true, false, Option, Some, None, refl, sym, ap, ◌∙◌, subst, arith, if◌then◌else◌, eqb-true}
use Rattle.std.specs.Prelude.{IfSome, int_lt}
use Rattle.std.specs.Int.Bits.{and_self, or_self, xor_self, and_zero_l, or_zero_l, xor_zero_l, or_add_and, xor_add_and}
use Rattle.std.proofs.lemmas.Nat.{and_comm, or_comm, xor_comm, and_mask, pow_pos}
use Rattle.std.proofs.Math.Nat.{mod_self, mod-eq_of_lt, add_comm, mul_comm, div-eq_of_lt, add-mul-mod_self_right, div-one}
use Rattle.std.proofs.lemmas.Bool.{le-leb, le-ltb, and_parts, and_from, lt-ltb}
use Rattle.std.specs.Cmp.{nat_eq_equiv}
use Rattle.knox_words.specs.Bits.{Bits, bits, IsWord, word_or, truth}
use Rattle.knox_words.specs.Signs.{sg}
use Rattle.knox_words.specs.Ops.{op1_value, op2_value, op2_or, fits2_of}
use Rattle.knox_words.specs.declared.op.Op1.TheVariants.{Not}
use Rattle.knox_words.specs.declared.op.Op2.{Op2}
use Rattle.knox_words.specs.declared.op.Op2.TheVariants as op2
use Rattle.knox_words.proofs.Lists.{word_or-zero}
use Rattle.knox_words.proofs.Results.{op2_or-value}
use Rattle.term_graph.specs.declared.rules.Rule.{Rule}
use Rattle.knox_words.proofs.Signed.{halves}
use Rattle.term_graph.specs.Rules.{ruled, is_commutative, same_rule, first_rule, second_rule, at_ends, at_bit, at_one, at_least, at_greatest}
use Rattle.term_graph.proofs.SignLemmas.{int_lt-same, int_le-same, int_le-from, not_below_least, not_above_greatest}

pub word-is : (x : Bits) (w n : ℕ) → x.width ≡ w → x.value ≡ n → x ≡ bits w n
word-is x w n p q = λ i. bits (p i) (q i)

-- a term and itself
module _ (x : Bits) (is : IsWord x) where
  zeroes : word_or x.width 0 ≡ bits x.width 0
  zeroes = word_or-zero x.width is.wide is.narrow

  equal : (x.value == x.value) ≡ true
  equal = nat_eq_equiv.refl x.value

  implied : (n : ℕ) → n < 2 → bits 1 1 ≡ truth (n == 0 || n == 1)
  implied zero h = refl
  implied (suc zero) h = refl
  implied (suc (suc n)) h = absurd (omega arith)

  pub same-values : (o : Op2) → fits2_of o x.width x.width ≡ true → IfSome (same_rule o x.width) (λ r. ruled r x ≡ op2_value o x x)
  same-values op2.And h = ap (bits x.width) (sym (and_self x.value))
  same-values op2.Or h = ap (bits x.width) (sym (or_self x.value))
  same-values op2.Nand h = ap (λ (n : ℕ). bits x.width (2 ^ x.width - 1 - n)) (sym (and_self x.value))
  same-values op2.Nor h = ap (λ (n : ℕ). bits x.width (2 ^ x.width - 1 - n)) (sym (or_self x.value))
  same-values op2.Xor h = zeroes ∙ ap (bits x.width) (sym (xor_self x.value))
  same-values op2.Sub h =
      let below : x.value < 2 ^ x.width = is.fits in
      let whole : x.value + (2 ^ x.width - x.value) ≡ 2 ^ x.width = omega arith in
      zeroes ∙ ap (bits x.width) (sym (ap (λ (n : ℕ). n % 2 ^ x.width) whole ∙ mod_self (2 ^ x.width)))
  same-values op2.Xnor h = ap (op1_value Not) zeroes ∙ ap (λ (n : ℕ). bits x.width (2 ^ x.width - 1 - n)) (sym (xor_self x.value))
  same-values op2.Iff h = ap truth (sym equal)
  same-values op2.Implies h =
      let one : x.width ≡ 1 = eqb-true x.width 1 (and_parts (x.width == 1) (x.width == 1) h).0 in
      implied x.value (subst (λ (k : ℕ). x.value < 2 ^ k) one is.fits)
  same-values op2.Eq h = ap truth (sym equal)
  same-values op2.Ugte h = ap truth (sym (le-leb x.value x.value (omega arith)))
  same-values op2.Ulte h = ap truth (sym (le-leb x.value x.value (omega arith)))
  same-values op2.Sgte h = ap truth (sym (int_le-same (sg x.width x.value)))
  same-values op2.Slte h = ap truth (sym (int_le-same (sg x.width x.value)))
  same-values op2.Neq h = ap (λ (t : Bool). truth (if t then false else true)) (sym equal)
  same-values op2.Ugt h = ap truth (sym (le-ltb x.value x.value (omega arith)))
  same-values op2.Ult h = ap truth (sym (le-ltb x.value x.value (omega arith)))
  same-values op2.Sgt h = ap truth (sym (int_lt-same (sg x.width x.value)))
  same-values op2.Slt h = ap truth (sym (int_lt-same (sg x.width x.value)))
  same-values _ h = tt

-- a rule at the ends of a word's range
ends : (c : Bits) (p q : Option Rule) (P : Rule → Type 0) → IsWord c → (c.value ≡ 0 → IfSome p P) → (c.value ≡ 2 ^ c.width - 1 → IfSome q P) → IfSome (at_ends c p q) P
ends c p q P is low high = by_test (c.value == 0) refl ((op1_value Not c).value == 0) refl
  where
    by_test : (t : Bool) → (c.value == 0) ≡ t → (u : Bool) → ((2 ^ c.width - 1 - c.value) == 0) ≡ u → IfSome (if t then p else if u then q else None) P
    by_test true e u f = low (eqb-true c.value 0 e)
    by_test false e true f =
        let none : 2 ^ c.width - 1 - c.value ≡ 0 = eqb-true (2 ^ c.width - 1 - c.value) 0 f in
        let below : c.value < 2 ^ c.width = is.fits in
        high (omega arith)
    by_test false e false f = tt

-- the same at width 1, at 1, and at the ends of the range with a sign

bit_ends : (c : Bits) (p q : Option Rule) (P : Rule → Type 0) → (c.width ≡ 1 → IfSome (at_ends c p q) P) → IfSome (at_bit c p q) P
bit_ends c p q P h = by_test (c.width == 1) refl
  where
    by_test : (t : Bool) → (c.width == 1) ≡ t → IfSome (if t then at_ends c p q else None) P
    by_test true e = h (eqb-true c.width 1 e)
    by_test false e = tt

by_one : (c : Bits) (p : Rule) (q : Option Rule) (P : Rule → Type 0) → (c.value ≡ 1 → P p) → IfSome q P → IfSome (at_one c p q) P
by_one c p q P h other = by_test (c.value == 1) refl
  where
    by_test : (t : Bool) → (c.value == 1) ≡ t → IfSome (if t then Some p else q) P
    by_test true e = h (eqb-true c.value 1 e)
    by_test false e = other

by_least : (c : Bits) (p : Rule) (P : Rule → Type 0) → (c.value ≡ 2 ^ (c.width - 1) → P p) → IfSome (at_least c p) P
by_least c p P h = by_test (c.value == 2 ^ (c.width - 1)) refl
  where
    by_test : (t : Bool) → (c.value == 2 ^ (c.width - 1)) ≡ t → IfSome (if t then Some p else None) P
    by_test true e = h (eqb-true c.value (2 ^ (c.width - 1)) e)
    by_test false e = tt

by_greatest : (c : Bits) (p : Rule) (P : Rule → Type 0) → IsWord c → (c.value ≡ 2 ^ (c.width - 1) - 1 → P p) → IfSome (at_greatest c p) P
by_greatest c p P is h = by_least (op1_value Not c) p P (λ z.
    let whole : 2 ^ c.width ≡ 2 ^ (c.width - 1) + 2 ^ (c.width - 1) = halves c.width is.wide in
    let below : c.value < 2 ^ c.width = is.fits in
    let turned : 2 ^ c.width - 1 - c.value ≡ 2 ^ (c.width - 1) = z in
    h (omega arith))

-- a word and a term of its width
module _ (c x : Bits) (same : c.width ≡ x.width) (is : IsWord c) (word : IsWord x) where
  below : x.value < 2 ^ c.width
  below = subst (λ (k : ℕ). x.value < 2 ^ k) (sym same) word.fits

  itself : (n : ℕ) → n ≡ x.value → x ≡ bits c.width n
  itself n e = word-is x c.width n (sym same) (sym e)

  turned : (n : ℕ) → n ≡ x.value → op1_value Not x ≡ bits c.width (2 ^ c.width - 1 - n)
  turned n e = ap (op1_value Not) (itself n e)

  constant : (n : ℕ) → n ≡ c.value → c ≡ bits c.width n
  constant n e = ap (bits c.width) (sym e)

  turned_constant : (n : ℕ) → n ≡ c.value → op1_value Not c ≡ bits c.width (2 ^ c.width - 1 - n)
  turned_constant n e = ap (op1_value Not) (constant n e)

  and-zero : c.value ≡ 0 → bit_and c.value x.value ≡ c.value
  and-zero z = ap (λ (n : ℕ). bit_and n x.value) z ∙ (and_zero_l x.value ∙ sym z)

  and-ones : c.value ≡ 2 ^ c.width - 1 → bit_and c.value x.value ≡ x.value
  and-ones z = ap (λ (n : ℕ). bit_and n x.value) z ∙ (and_comm (2 ^ c.width - 1) x.value ∙ (and_mask x.value c.width ∙ mod-eq_of_lt below))

  or-zero : c.value ≡ 0 → bit_or c.value x.value ≡ x.value
  or-zero z = ap (λ (n : ℕ). bit_or n x.value) z ∙ or_zero_l x.value

  or-ones : c.value ≡ 2 ^ c.width - 1 → bit_or c.value x.value ≡ c.value
  or-ones z =
      let sum : bit_or c.value x.value + bit_and c.value x.value ≡ c.value + x.value = or_add_and c.value x.value in
      let all : bit_and c.value x.value ≡ x.value = and-ones z in
      omega arith

  xor-zero : c.value ≡ 0 → bit_xor c.value x.value ≡ x.value
  xor-zero z = ap (λ (n : ℕ). bit_xor n x.value) z ∙ xor_zero_l x.value

  xor-ones : c.value ≡ 2 ^ c.width - 1 → bit_xor c.value x.value ≡ 2 ^ c.width - 1 - x.value
  xor-ones z =
      let sum : bit_xor c.value x.value + bit_and c.value x.value * 2 ≡ c.value + x.value = xor_add_and c.value x.value in
      let all : bit_and c.value x.value ≡ x.value = and-ones z in
      let less : x.value < 2 ^ c.width = below in
      omega arith

  turned-xor : c.value ≡ 2 ^ c.width - 1 → op1_value Not x ≡ bits c.width (bit_xor c.value x.value)
  turned-xor z = turned x.value refl ∙ ap (bits c.width) (sym (xor-ones z))

  itself-xnor : c.value ≡ 2 ^ c.width - 1 → x ≡ bits c.width (2 ^ c.width - 1 - bit_xor c.value x.value)
  itself-xnor z =
      let less : x.value < 2 ^ c.width = below in
      let is_xor : bit_xor c.value x.value ≡ 2 ^ c.width - 1 - x.value = xor-ones z in
      itself _ (omega arith)

  -- at width 1
  module _ (one : c.width ≡ 1) where
    small : x.value < 2
    small = subst (λ (k : ℕ). x.value < 2 ^ k) one below

    full : c.value ≡ 2 ^ c.width - 1 → c.value ≡ 1
    full z = z ∙ ap (λ (k : ℕ). 2 ^ k - 1) one

    same-one : (n : ℕ) → n < 2 → (if 1 == n then 1 else 0) ≡ n
    same-one zero h = refl
    same-one (suc zero) h = refl
    same-one (suc (suc n)) h = absurd (omega arith)

    same-zero : (n : ℕ) → n < 2 → (if 0 == n then 1 else 0) ≡ 1 - n
    same-zero zero h = refl
    same-zero (suc zero) h = refl
    same-zero (suc (suc n)) h = absurd (omega arith)

    turned-small : op1_value Not x ≡ bits 1 (1 - x.value)
    turned-small = word-is (op1_value Not x) 1 (1 - x.value) (sym same ∙ one) (ap (λ (k : ℕ). 2 ^ k - 1 - x.value) (sym same ∙ one))

    itself-small : x ≡ bits 1 x.value
    itself-small = word-is x 1 x.value (sym same ∙ one) refl

    iff-zero : c.value ≡ 0 → op1_value Not x ≡ truth (c.value == x.value)
    iff-zero z = turned-small ∙ (ap (bits 1) (sym (same-zero x.value small)) ∙ ap (λ (n : ℕ). truth (n == x.value)) (sym z))

    iff-ones : c.value ≡ 2 ^ c.width - 1 → x ≡ truth (c.value == x.value)
    iff-ones z = itself-small ∙ (ap (bits 1) (sym (same-one x.value small)) ∙ ap (λ (n : ℕ). truth (n == x.value)) (sym (full z)))

    other-zero : (n : ℕ) → n < 2 → (if (if 0 == n then false else true) then 1 else 0) ≡ n
    other-zero zero h = refl
    other-zero (suc zero) h = refl
    other-zero (suc (suc n)) h = absurd (omega arith)

    other-one : (n : ℕ) → n < 2 → (if (if 1 == n then false else true) then 1 else 0) ≡ 1 - n
    other-one zero h = refl
    other-one (suc zero) h = refl
    other-one (suc (suc n)) h = absurd (omega arith)

    neq-zero : c.value ≡ 0 → x ≡ truth (if c.value == x.value then false else true)
    neq-zero z = itself-small ∙ (ap (bits 1) (sym (other-zero x.value small)) ∙ ap (λ (n : ℕ). truth (if n == x.value then false else true)) (sym z))

    neq-ones : c.value ≡ 2 ^ c.width - 1 → op1_value Not x ≡ truth (if c.value == x.value then false else true)
    neq-ones z = turned-small ∙ (ap (bits 1) (sym (other-one x.value small)) ∙ ap (λ (n : ℕ). truth (if n == x.value then false else true)) (sym (full z)))

    implies-one : (n : ℕ) → n < 2 → bits 1 n ≡ truth (1 == 0 || n == 1)
    implies-one zero h = refl
    implies-one (suc zero) h = refl
    implies-one (suc (suc n)) h = absurd (omega arith)

    implies-ones : c.value ≡ 2 ^ c.width - 1 → x ≡ truth (c.value == 0 || x.value == 1)
    implies-ones z = itself-small ∙ (implies-one x.value small ∙ ap (λ (n : ℕ). truth (n == 0 || x.value == 1)) (sym (full z)))

  pub first-values : (o : Op2) → fits2_of o c.width x.width ≡ true → IfSome (first_rule o c) (λ r. ruled r x ≡ op2_value o c x)
  first-values op2.And h = ends c _ _ (λ r. ruled r x ≡ op2_value op2.And c x) is (λ z. constant _ (and-zero z)) (λ z. itself _ (and-ones z))
  first-values op2.Or h = ends c _ _ (λ r. ruled r x ≡ op2_value op2.Or c x) is (λ z. itself _ (or-zero z)) (λ z. constant _ (or-ones z))
  first-values op2.Xor h = ends c _ _ (λ r. ruled r x ≡ op2_value op2.Xor c x) is (λ z. itself _ (xor-zero z)) turned-xor
  first-values op2.Nand h = ends c _ _ (λ r. ruled r x ≡ op2_value op2.Nand c x) is (λ z. turned_constant _ (and-zero z)) (λ z. turned _ (and-ones z))
  first-values op2.Nor h = ends c _ _ (λ r. ruled r x ≡ op2_value op2.Nor c x) is (λ z. turned _ (or-zero z)) (λ z. turned_constant _ (or-ones z))
  first-values op2.Xnor h = ends c _ _ (λ r. ruled r x ≡ op2_value op2.Xnor c x) is (λ z. turned _ (xor-zero z)) itself-xnor
  first-values op2.Add h =
      let less : x.value < 2 ^ c.width = below in
      ends c _ _ (λ r. ruled r x ≡ op2_value op2.Add c x) is (λ z. itself _ (ap (λ (n : ℕ). (n + x.value) % 2 ^ c.width) z ∙ mod-eq_of_lt (let l : 0 + x.value < 2 ^ c.width = omega arith in l) ∙ omega arith)) (λ z. tt)
  first-values op2.Mul h =
      let some : 0 < 2 ^ c.width = pow_pos c.width in
      let less : 1 * x.value < 2 ^ c.width = omega (arith, below) in
      let once : 1 * x.value ≡ x.value = omega arith in
      by_one c _ _ (λ r. ruled r x ≡ op2_value op2.Mul c x) (λ z. itself _ (ap (λ (n : ℕ). n * x.value % 2 ^ c.width) z ∙ (mod-eq_of_lt less ∙ once)))
      (ends c _ _ (λ r. ruled r x ≡ op2_value op2.Mul c x) is (λ z. constant _ (ap (λ (n : ℕ). n * x.value % 2 ^ c.width) z ∙ (mod-eq_of_lt (let l : 0 * x.value < 2 ^ c.width = omega arith in l) ∙ (omega (arith, z))))) (λ z. tt))
  first-values op2.Sll h = ends c _ _ (λ r. ruled r x ≡ op2_value op2.Sll c x) is (λ z. constant _ (shifted (nat_lt x.value c.width) z)) (λ z. tt)
    where
      shifted : (t : Bool) → c.value ≡ 0 → (if t then c.value * 2 ^ x.value % 2 ^ c.width else 0) ≡ c.value
      shifted true z =
          let some : 0 < 2 ^ c.width = pow_pos c.width in
          ap (λ (n : ℕ). n * 2 ^ x.value % 2 ^ c.width) z ∙ (mod-eq_of_lt (let l : 0 * 2 ^ x.value < 2 ^ c.width = omega arith in l) ∙ (omega (arith, z)))
      shifted false z = sym z
  first-values op2.Srl h = ends c _ _ (λ r. ruled r x ≡ op2_value op2.Srl c x) is (λ z. constant _ (shifted (nat_lt x.value c.width) z)) (λ z. tt)
    where
      shifted : (t : Bool) → c.value ≡ 0 → (if t then c.value / 2 ^ x.value else 0) ≡ c.value
      shifted true z = ap (λ (n : ℕ). n / 2 ^ x.value) z ∙ (div-eq_of_lt (pow_pos x.value) ∙ sym z)
      shifted false z = sym z
  first-values op2.Implies h =
      let one : c.width ≡ 1 = eqb-true c.width 1 (and_parts (c.width == 1) (x.width == 1) h).0 in
      ends c _ _ (λ r. ruled r x ≡ op2_value op2.Implies c x) is (λ z. ap (λ (n : ℕ). truth (n == 0 || x.value == 1)) (sym z)) (implies-ones one)
  first-values op2.Ult h = ends c _ _ (λ r. ruled r x ≡ op2_value op2.Ult c x) is (λ z. tt) (λ z. let less : x.value < 2 ^ c.width = below in ap truth (sym (le-ltb c.value x.value (omega arith))))
  first-values op2.Ulte h = ends c _ _ (λ r. ruled r x ≡ op2_value op2.Ulte c x) is (λ z. ap truth (sym (le-leb c.value x.value (omega arith)))) (λ z. tt)
  first-values op2.Ugt h = ends c _ _ (λ r. ruled r x ≡ op2_value op2.Ugt c x) is (λ z. ap truth (sym (le-ltb x.value c.value (omega arith)))) (λ z. tt)
  first-values op2.Ugte h = ends c _ _ (λ r. ruled r x ≡ op2_value op2.Ugte c x) is (λ z. tt) (λ z. let less : x.value < 2 ^ c.width = below in ap truth (sym (le-leb x.value c.value (omega arith))))
  first-values op2.Iff h =
      let one : c.width ≡ 1 = eqb-true c.width 1 (and_parts (c.width == 1) (x.width == 1) h).0 in
      ends c _ _ (λ r. ruled r x ≡ op2_value op2.Iff c x) is (iff-zero one) (iff-ones one)
  first-values op2.Eq h = bit_ends c _ _ (λ r. ruled r x ≡ op2_value op2.Eq c x) (λ bit. ends c _ _ (λ r. ruled r x ≡ op2_value op2.Eq c x) is (iff-zero bit) (iff-ones bit))
  first-values op2.Neq h = bit_ends c _ _ (λ r. ruled r x ≡ op2_value op2.Neq c x) (λ bit. ends c _ _ (λ r. ruled r x ≡ op2_value op2.Neq c x) is (neq-zero bit) (neq-ones bit))
  first-values op2.Slt h = by_greatest c _ (λ r. ruled r x ≡ op2_value op2.Slt c x) is (λ z. ap truth (sym (not_above_greatest c.width x.value c.value z)))
  first-values op2.Slte h = by_least c _ (λ r. ruled r x ≡ op2_value op2.Slte c x) (λ z. ap truth (sym (int_le-from (sg c.width c.value) (sg c.width x.value) (not_below_least c.width x.value c.value z))))
  first-values op2.Sgt h = by_least c _ (λ r. ruled r x ≡ op2_value op2.Sgt c x) (λ z. ap truth (sym (not_below_least c.width x.value c.value z)))
  first-values op2.Sgte h = by_greatest c _ (λ r. ruled r x ≡ op2_value op2.Sgte c x) is (λ z. ap truth (sym (int_le-from (sg c.width x.value) (sg c.width c.value) (not_above_greatest c.width x.value c.value z))))
  first-values _ h = tt

  -- the word in the second place
  module _ (one : c.width ≡ 1) where
    implied-zero : (n : ℕ) → n < 2 → bits 1 (1 - n) ≡ truth (n == 0 || 0 == 1)
    implied-zero zero h = refl
    implied-zero (suc zero) h = refl
    implied-zero (suc (suc n)) h = absurd (omega arith)

    implied-ones : (n : ℕ) → n < 2 → bits 1 1 ≡ truth (n == 0 || 1 == 1)
    implied-ones zero h = refl
    implied-ones (suc zero) h = refl
    implied-ones (suc (suc n)) h = absurd (omega arith)

    by-zero : c.value ≡ 0 → op1_value Not x ≡ truth (x.value == 0 || c.value == 1)
    by-zero z = turned-small one ∙ (implied-zero x.value (small one) ∙ ap (λ (n : ℕ). truth (x.value == 0 || n == 1)) (sym z))

    by-ones : c.value ≡ 2 ^ c.width - 1 → c ≡ truth (x.value == 0 || c.value == 1)
    by-ones z = word-is c 1 1 one (full one z) ∙ (implied-ones x.value (small one) ∙ ap (λ (n : ℕ). truth (x.value == 0 || n == 1)) (sym (full one z)))

  not_below : c.value ≡ 2 ^ (c.width - 1) → int_lt (sg x.width x.value) (sg x.width c.value) ≡ false
  not_below z = not_below_least x.width x.value c.value (z ∙ ap (λ (k : ℕ). 2 ^ (k - 1)) same)

  not_above : c.value ≡ 2 ^ (c.width - 1) - 1 → int_lt (sg x.width c.value) (sg x.width x.value) ≡ false
  not_above z = not_above_greatest x.width x.value c.value (z ∙ ap (λ (k : ℕ). 2 ^ (k - 1) - 1) same)

  pub second-values : (o : Op2) → fits2_of o x.width c.width ≡ true → IfSome (second_rule o c) (λ r. ruled r x ≡ op2_value o x c)
  second-values op2.Sub h =
      let less : x.value < 2 ^ x.width = word.fits in
      ends c _ _ (λ r. ruled r x ≡ op2_value op2.Sub x c) is
      (λ z.
      let whole : x.value + (2 ^ x.width - c.value) ≡ x.value + 1 * 2 ^ x.width = omega (arith, z) in
      ap (bits x.width) (sym (ap (λ (n : ℕ). n % 2 ^ x.width) whole ∙ (add-mul-mod_self_right x.value 1 (2 ^ x.width) ∙ mod-eq_of_lt less))))
      (λ z. tt)
  second-values op2.Sll h = ends c _ _ (λ r. ruled r x ≡ op2_value op2.Sll x c) is (λ z. ap (bits x.width) (sym (unshifted z))) (λ z. tt)
    where
      unshifted : c.value ≡ 0 → (if nat_lt c.value x.width then x.value * 2 ^ c.value % 2 ^ x.width else 0) ≡ x.value
      unshifted z =
          let once : x.value * 1 ≡ x.value = omega arith in
          ap (λ (n : ℕ). if nat_lt n x.width then x.value * 2 ^ n % 2 ^ x.width else 0) z
          ∙ (ap (λ (t : Bool). if t then x.value * 1 % 2 ^ x.width else 0) (lt-ltb 0 x.width word.wide)
          ∙ (ap (λ (n : ℕ). n % 2 ^ x.width) once ∙ mod-eq_of_lt word.fits))
  second-values op2.Srl h = ends c _ _ (λ r. ruled r x ≡ op2_value op2.Srl x c) is (λ z. ap (bits x.width) (sym (unshifted z))) (λ z. tt)
    where
      unshifted : c.value ≡ 0 → (if nat_lt c.value x.width then x.value / 2 ^ c.value else 0) ≡ x.value
      unshifted z =
          ap (λ (n : ℕ). if nat_lt n x.width then x.value / 2 ^ n else 0) z
          ∙ (ap (λ (t : Bool). if t then x.value / 1 else 0) (lt-ltb 0 x.width word.wide)
          ∙ div-one x.value)
  second-values op2.Implies h =
      let one : c.width ≡ 1 = eqb-true c.width 1 (and_parts (x.width == 1) (c.width == 1) h).1 in
      ends c _ _ (λ r. ruled r x ≡ op2_value op2.Implies x c) is (by-zero one) (by-ones one)
  second-values op2.Ult h = ends c _ _ (λ r. ruled r x ≡ op2_value op2.Ult x c) is (λ z. ap truth (sym (le-ltb x.value c.value (omega arith)))) (λ z. tt)
  second-values op2.Ulte h = ends c _ _ (λ r. ruled r x ≡ op2_value op2.Ulte x c) is (λ z. tt) (λ z. let less : x.value < 2 ^ c.width = below in ap truth (sym (le-leb x.value c.value (omega arith))))
  second-values op2.Ugt h = ends c _ _ (λ r. ruled r x ≡ op2_value op2.Ugt x c) is (λ z. tt) (λ z. let less : x.value < 2 ^ c.width = below in ap truth (sym (le-ltb c.value x.value (omega arith))))
  second-values op2.Ugte h = ends c _ _ (λ r. ruled r x ≡ op2_value op2.Ugte x c) is (λ z. ap truth (sym (le-leb c.value x.value (omega arith)))) (λ z. tt)
  second-values op2.Slt h = by_least c _ (λ r. ruled r x ≡ op2_value op2.Slt x c) (λ z. ap truth (sym (not_below z)))
  second-values op2.Slte h = by_greatest c _ (λ r. ruled r x ≡ op2_value op2.Slte x c) is (λ z. ap truth (sym (int_le-from (sg x.width x.value) (sg x.width c.value) (not_above z))))
  second-values op2.Sgt h = by_greatest c _ (λ r. ruled r x ≡ op2_value op2.Sgt x c) is (λ z. ap truth (sym (not_above z)))
  second-values op2.Sgte h = by_least c _ (λ r. ruled r x ≡ op2_value op2.Sgte x c) (λ z. ap truth (sym (int_le-from (sg x.width c.value) (sg x.width x.value) (not_below z))))
  second-values op2.Udiv h = by_one c _ _ (λ r. ruled r x ≡ op2_value op2.Udiv x c) (λ z. ap (bits x.width) (sym (ap (λ (n : ℕ). if n == 0 then 2 ^ x.width - 1 else x.value / n) z ∙ div-one x.value))) tt
  second-values _ h = tt

-- operands in the other order

eqb-sym : (v w : ℕ) → (v == w) ≡ true → (w == v) ≡ true
eqb-sym v w h = subst (λ (k : ℕ). (w == k) ≡ true) (sym (eqb-true v w h)) (nat_eq_equiv.refl w)

pub fits-commuted : (o : Op2) (v w : ℕ) → is_commutative o ≡ true → fits2_of o v w ≡ true → fits2_of o w v ≡ true
fits-commuted op2.Iff v w c h = let both = and_parts (v == 1) (w == 1) h in and_from (w == 1) (v == 1) both.1 both.0
fits-commuted op2.Eq v w c h = eqb-sym v w h
fits-commuted op2.Neq v w c h = eqb-sym v w h
fits-commuted op2.And v w c h = eqb-sym v w h
fits-commuted op2.Nand v w c h = eqb-sym v w h
fits-commuted op2.Nor v w c h = eqb-sym v w h
fits-commuted op2.Or v w c h = eqb-sym v w h
fits-commuted op2.Xnor v w c h = eqb-sym v w h
fits-commuted op2.Xor v w c h = eqb-sym v w h
fits-commuted op2.Add v w c h = eqb-sym v w h
fits-commuted op2.Mul v w c h = eqb-sym v w h
fits-commuted _ v w c h = cc

eqb-commutes : (m n : ℕ) → (m == n) ≡ (n == m)
eqb-commutes m n = nat_eq_equiv.symm m n

module _ (a b : Bits) where
  -- of words of one width, by what is done to the numbers
  numbers : (f : ℕ → ℕ → ℕ → ℕ) → (a.width == b.width) ≡ true → ((w m n : ℕ) → f w m n ≡ f w n m) → bits a.width (f a.width a.value b.value) ≡ bits b.width (f b.width b.value a.value)
  numbers f h e = ap (bits a.width) (e a.width a.value b.value) ∙ ap (λ (w : ℕ). bits w (f w b.value a.value)) (eqb-true a.width b.width h)

  value-commuted : (o : Op2) → is_commutative o ≡ true → fits2_of o a.width b.width ≡ true → op2_value o a b ≡ op2_value o b a
  value-commuted op2.Iff c h = ap truth (eqb-commutes a.value b.value)
  value-commuted op2.Eq c h = ap truth (eqb-commutes a.value b.value)
  value-commuted op2.Neq c h = ap (λ (t : Bool). truth (if t then false else true)) (eqb-commutes a.value b.value)
  value-commuted op2.And c h = numbers (λ w m n. bit_and m n) h (λ w m n. and_comm m n)
  value-commuted op2.Nand c h = numbers (λ w m n. 2 ^ w - 1 - bit_and m n) h (λ w m n. ap (λ (k : ℕ). 2 ^ w - 1 - k) (and_comm m n))
  value-commuted op2.Nor c h = numbers (λ w m n. 2 ^ w - 1 - bit_or m n) h (λ w m n. ap (λ (k : ℕ). 2 ^ w - 1 - k) (or_comm m n))
  value-commuted op2.Or c h = numbers (λ w m n. bit_or m n) h (λ w m n. or_comm m n)
  value-commuted op2.Xnor c h = numbers (λ w m n. 2 ^ w - 1 - bit_xor m n) h (λ w m n. ap (λ (k : ℕ). 2 ^ w - 1 - k) (xor_comm m n))
  value-commuted op2.Xor c h = numbers (λ w m n. bit_xor m n) h (λ w m n. xor_comm m n)
  value-commuted op2.Add c h = numbers (λ w m n. (m + n) % 2 ^ w) h (λ w m n. ap (λ (k : ℕ). k % 2 ^ w) (add_comm m n))
  value-commuted op2.Mul c h = numbers (λ w m n. m * n % 2 ^ w) h (λ w m n. ap (λ (k : ℕ). k % 2 ^ w) (mul_comm m n))
  value-commuted _ c h = cc

pub or-commuted : (o : Op2) (a b : Bits) → is_commutative o ≡ true → fits2_of o a.width b.width ≡ true → op2_or o a b ≡ op2_or o b a
or-commuted o a b c h = op2_or-value o a b h ∙ (value-commuted a b o c h ∙ sym (op2_or-value o b a (fits-commuted o a.width b.width c h)))
