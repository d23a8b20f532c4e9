-- Sums and products of words of one width, which are those of their numbers modulo a power of two.
use Rattle.std.proofs.Common.{◌≡◌, ℕ, zero, suc, ◌+◌, ◌-◌, ◌*◌, ◌%◌, ◌^◌, ◌<◌, nat_lt, Bool, true, false, refl, sym, ap, ◌∙◌, subst, arith, if◌then◌else◌, eq-eqb}
use Rattle.std.proofs.lemmas.Nat.{mul-mod_first, mul-mod_second, pow_pos}
use Rattle.std.proofs.Math.Nat.{one-mul, mod_self, mod-eq_of_lt, mod-add-mod, add-mod-mod, add-mul, mul_assoc, mul_comm, add_comm, add-mul-mod_self_right}
use Rattle.knox_words.specs.Bits.{Bits, bits, IsWord}
use Rattle.knox_words.specs.Ops.{op1_value, op2_or}
use Rattle.knox_words.specs.declared.op.Op1.TheVariants.{Not, Neg, Inc, Dec}
use Rattle.knox_words.specs.declared.op.Op2.TheVariants as op2
use Rattle.knox_words.proofs.Results.{op2_or-value}
use Rattle.term_graph.specs.declared.chain.Chain.{Chain}
use Rattle.term_graph.specs.declared.chain.Chain.TheVariants.{Sum, Product}
use Rattle.term_graph.specs.Chains.{operator, neutral}
use Rattle.term_graph.proofs.RuleLemmas.{word-is}
use Rattle.term_graph.proofs.WidthLemmas.{op2_or-IsWord}

-- numbers

abbrev num : Chain → ℕ → ℕ → ℕ → ℕ
num Sum m a b = (a + b) % m
num Product m a b = (a * b) % m

num-assoc : (k : Chain) (m a b c : ℕ) → num k m (num k m a b) c ≡ num k m a (num k m b c)
num-assoc Sum m a b c =
    let same : a + b + c ≡ a + (b + c) = omega arith in
    mod-add-mod (a + b) m c ∙ (ap (λ (n : ℕ). n % m) same ∙ sym (add-mod-mod a (b + c) m))
num-assoc Product m a b c = mul-mod_first (a * b) c m ∙ (ap (λ (n : ℕ). n % m) (mul_assoc a b c) ∙ sym (mul-mod_second a (b * c) m))

num-comm : (k : Chain) (m a b : ℕ) → num k m a b ≡ num k m b a
num-comm Sum m a b = ap (λ (n : ℕ). n % m) (add_comm a b)
num-comm Product m a b = ap (λ (n : ℕ). n % m) (mul_comm a b)

num-turn : (k : Chain) (m x b s : ℕ) → num k m (num k m x b) s ≡ num k m (num k m x s) b
num-turn k m x b s = num-assoc k m x b s ∙ (ap (num k m x) (num-comm k m b s) ∙ sym (num-assoc k m x s b))

num-four : (k : Chain) (m x y s u : ℕ) → num k m (num k m x y) (num k m s u) ≡ num k m (num k m x s) (num k m y u)
num-four k m x y s u =
    sym (num-assoc k m (num k m x y) s u)
    ∙ (ap (λ (n : ℕ). num k m n u) (num-turn k m x y s) ∙ num-assoc k m (num k m x s) y u)

num-spread : (m x u s : ℕ) → num Product m (num Sum m x u) s ≡ num Sum m (num Product m x s) (num Product m u s)
num-spread m x u s =
    mul-mod_first (x + u) s m
    ∙ (ap (λ (n : ℕ). n % m) (add-mul x u s)
    ∙ sym (mod-add-mod (x * s) m (u * s % m) ∙ add-mod-mod (x * s) (u * s) m))

-- the negative is the product with the greatest number
num-negative : (m x : ℕ) → x < m → (m - x) % m ≡ num Product m (m - 1) x
num-negative m zero h =
    let none : (m - 1) * 0 ≡ 0 = omega arith in
    let whole : m - 0 ≡ m = omega arith in
    ap (λ (n : ℕ). n % m) whole ∙ (mod_self m ∙ (sym (mod-eq_of_lt h) ∙ ap (λ (n : ℕ). n % m) (sym none)))
num-negative m (suc n) h = negative (m - 1) m n (omega arith) h
  where
    negative : (g m n : ℕ) → m ≡ suc g → suc n < m → (m - suc n) % m ≡ g * suc n % m
    negative g m n e h =
        let turned : n * m ≡ m * n = mul_comm n m in
        let apart : m * n ≡ g * n + n = rw e (omega arith) in
        let once : g * suc n ≡ g * n + g = omega arith in
        let all : m - suc n + n * m ≡ g * suc n = omega arith in
        sym (add-mul-mod_self_right (m - suc n) n m) ∙ ap (λ (k : ℕ). k % m) all

-- words

op-is : (k : Chain) (a b : Bits) (w : ℕ) → a.width ≡ w → b.width ≡ w → op2_or (operator k) a b ≡ bits w (num k (2 ^ w) a.value b.value)
op-is Sum a b w p q = op2_or-value op2.Add a b (eq-eqb a.width b.width (p ∙ sym q)) ∙ ap (λ (n : ℕ). bits n ((a.value + b.value) % 2 ^ n)) p
op-is Product a b w p q = op2_or-value op2.Mul a b (eq-eqb a.width b.width (p ∙ sym q)) ∙ ap (λ (n : ℕ). bits n ((a.value * b.value) % 2 ^ n)) p

pub op-width : (k : Chain) (a b : Bits) → a.width ≡ b.width → (op2_or (operator k) a b).width ≡ a.width
op-width k a b e = ap (λ (x : Bits). x.width) (op-is k a b a.width refl (sym e))

module _ (w : ℕ) where
  op-first : (j k : Chain) (a b c : Bits) → a.width ≡ w → b.width ≡ w → c.width ≡ w → op2_or (operator j) (op2_or (operator k) a b) c ≡ bits w (num j (2 ^ w) (num k (2 ^ w) a.value b.value) c.value)
  op-first j k a b c p q r = ap (λ (x : Bits). op2_or (operator j) x c) (op-is k a b w p q) ∙ op-is j (bits w (num k (2 ^ w) a.value b.value)) c w refl r

  op-second : (j k : Chain) (a b c : Bits) → a.width ≡ w → b.width ≡ w → c.width ≡ w → op2_or (operator j) a (op2_or (operator k) b c) ≡ bits w (num j (2 ^ w) a.value (num k (2 ^ w) b.value c.value))
  op-second j k a b c p q r = ap (op2_or (operator j) a) (op-is k b c w q r) ∙ op-is j a (bits w (num k (2 ^ w) b.value c.value)) w p refl

  op-both : (j k : Chain) (a b c d : Bits) → a.width ≡ w → b.width ≡ w → c.width ≡ w → d.width ≡ w → op2_or (operator j) (op2_or (operator k) a b) (op2_or (operator k) c d) ≡ bits w (num j (2 ^ w) (num k (2 ^ w) a.value b.value) (num k (2 ^ w) c.value d.value))
  op-both j k a b c d p q r s =
      ap (λ (x : Bits). op2_or (operator j) x (op2_or (operator k) c d)) (op-is k a b w p q)
      ∙ op-second j k (bits w (num k (2 ^ w) a.value b.value)) c d refl r s

  -- the first two in the other order, the last two first, and two chains by their places

  pub op-turn : (k : Chain) (x b s : Bits) → x.width ≡ w → b.width ≡ w → s.width ≡ w → op2_or (operator k) (op2_or (operator k) x b) s ≡ op2_or (operator k) (op2_or (operator k) x s) b
  op-turn k x b s p q r = op-first k k x b s p q r ∙ (ap (bits w) (num-turn k (2 ^ w) x.value b.value s.value) ∙ sym (op-first k k x s b p r q))

  pub op-assoc : (k : Chain) (a y u : Bits) → a.width ≡ w → y.width ≡ w → u.width ≡ w → op2_or (operator k) (op2_or (operator k) a y) u ≡ op2_or (operator k) a (op2_or (operator k) y u)
  op-assoc k a y u p q r = op-first k k a y u p q r ∙ (ap (bits w) (num-assoc k (2 ^ w) a.value y.value u.value) ∙ sym (op-second k k a y u p q r))

  pub op-four : (k : Chain) (x y s u : Bits) → x.width ≡ w → y.width ≡ w → s.width ≡ w → u.width ≡ w → op2_or (operator k) (op2_or (operator k) x y) (op2_or (operator k) s u) ≡ op2_or (operator k) (op2_or (operator k) x s) (op2_or (operator k) y u)
  op-four k x y s u p q r t =
      op-both k k x y s u p q r t ∙ (ap (bits w) (num-four k (2 ^ w) x.value y.value s.value u.value) ∙ sym (op-both k k x s y u p r q t))

  -- a product with a sum

  pub op-spread : (x u s : Bits) → x.width ≡ w → u.width ≡ w → s.width ≡ w → op2_or op2.Add (op2_or op2.Mul x s) (op2_or op2.Mul u s) ≡ op2_or op2.Mul (op2_or op2.Add x u) s
  op-spread x u s p q r =
      op-both Sum Product x s u s p r q r ∙ (ap (bits w) (sym (num-spread (2 ^ w) x.value u.value s.value)) ∙ sym (op-first Product Sum x u s p q r))

  pub op-spread_last : (a y u : Bits) → a.width ≡ w → y.width ≡ w → u.width ≡ w → op2_or op2.Add (op2_or op2.Mul a y) (op2_or op2.Mul a u) ≡ op2_or op2.Mul a (op2_or op2.Add y u)
  op-spread_last a y u p q r =
      (λ i. op2_or op2.Add (op-comm Product a y p q i) (op-comm Product a u p r i))
      ∙ (op-spread y u a q r p ∙ op-comm Product (op2_or op2.Add y u) a (op-width Sum y u (q ∙ sym r) ∙ q) p)
    where
      op-comm : (k : Chain) (a b : Bits) → a.width ≡ w → b.width ≡ w → op2_or (operator k) a b ≡ op2_or (operator k) b a
      op-comm k a b p q = op-is k a b w p q ∙ (ap (bits w) (num-comm k (2 ^ w) a.value b.value) ∙ sym (op-is k b a w q p))

  pub op-neutral : (k : Chain) (a : Bits) → IsWord a → a.width ≡ w → op2_or (operator k) (bits w (neutral k)) a ≡ a
  op-neutral k a is p = op-is k (bits w (neutral k)) a w refl p ∙ sym (word-is a w _ p (sym (alone k)))
    where
      below : a.value < 2 ^ w
      below = subst (λ (n : ℕ). a.value < 2 ^ n) p is.fits

      alone : (k : Chain) → num k (2 ^ w) (neutral k) a.value ≡ a.value
      alone Sum = let less : 0 + a.value < 2 ^ w = omega (arith, below) in mod-eq_of_lt less ∙ omega arith
      alone Product = let less : 1 * a.value < 2 ^ w = omega (arith, below) in mod-eq_of_lt less ∙ omega arith

  -- negatives

  pub op-negative : (a : Bits) → IsWord a → a.width ≡ w → op1_value Neg a ≡ op2_or op2.Mul (bits w (2 ^ w - 1)) a
  op-negative a is p =
      ap (λ (n : ℕ). bits n ((2 ^ n - a.value) % 2 ^ n)) p
      ∙ (ap (bits w) (num-negative (2 ^ w) a.value (subst (λ (n : ℕ). a.value < 2 ^ n) p is.fits)) ∙ sym (op-is Product (bits w (2 ^ w - 1)) a w refl p))

  pub op-less : (a b : Bits) → IsWord b → a.width ≡ w → b.width ≡ w → op2_or op2.Sub a b ≡ op2_or op2.Add a (op1_value Neg b)
  op-less a b is p q =
      op2_or-value op2.Sub a b (eq-eqb a.width b.width (p ∙ sym q))
      ∙ ((λ i. bits a.width ((a.value + (2 ^ (p ∙ sym q) i - b.value)) % 2 ^ a.width))
      ∙ sym (op2_or-value op2.Add a (op1_value Neg b) (eq-eqb a.width b.width (p ∙ sym q))
      ∙ ap (λ (n : ℕ). bits a.width ((a.value + (2 ^ b.width - b.value) % 2 ^ n) % 2 ^ a.width)) (q ∙ sym p)
      ∙ ap (bits a.width) (add-mod-mod a.value (2 ^ b.width - b.value) (2 ^ a.width))))

  pub op-next : (a : Bits) → IsWord a → a.width ≡ w → op1_value Inc a ≡ op2_or op2.Add (bits w 1) a
  op-next a is p =
      ap (λ (n : ℕ). bits n ((a.value + 1) % 2 ^ n)) p
      ∙ (ap (λ (n : ℕ). bits w (n % 2 ^ w)) (add_comm a.value 1) ∙ sym (op-is Sum (bits w 1) a w refl p))

  pub op-previous : (a : Bits) → IsWord a → a.width ≡ w → op1_value Dec a ≡ op2_or op2.Add (bits w (2 ^ w - 1)) a
  op-previous a is p =
      ap (λ (n : ℕ). bits n ((a.value + (2 ^ n - 1)) % 2 ^ n)) p
      ∙ (ap (λ (n : ℕ). bits w (n % 2 ^ w)) (add_comm a.value (2 ^ w - 1)) ∙ sym (op-is Sum (bits w (2 ^ w - 1)) a w refl p))

  -- a word's opposite times a word

  pub op-opposite : (c m : Bits) → IsWord c → IsWord m → c.width ≡ w → m.width ≡ w → op2_or op2.Mul (op1_value Neg c) m ≡ op1_value Neg (op2_or op2.Mul c m)
  op-opposite c m is word p q =
      ap (λ (x : Bits). op2_or op2.Mul x m) (op-negative c is p)
      ∙ (op-assoc Product (bits w (2 ^ w - 1)) c m refl p q
      ∙ sym (op-negative (op2_or op2.Mul c m) (op2_or-IsWord op2.Mul c m is word) (op-width Product c m (p ∙ sym q) ∙ p)))

  -- a shift to the left is a product

  pub op-shifted : (a c : Bits) → a.width ≡ w → c.width ≡ w → op2_or op2.Mul (op2_or op2.Sll (bits w 1) c) a ≡ op2_or op2.Sll a c
  op-shifted a c p q =
      ap (λ (x : Bits). op2_or op2.Mul x a) (op2_or-value op2.Sll (bits w 1) c (eq-eqb w c.width (sym q)))
      ∙ (op-is Product (bits w (if nat_lt c.value w then 1 * 2 ^ c.value % 2 ^ w else 0)) a w refl p
      ∙ (ap (bits w) (by_test (nat_lt c.value w))
      ∙ sym (op2_or-value op2.Sll a c (eq-eqb a.width c.width (p ∙ sym q)) ∙ ap (λ (n : ℕ). bits n (if nat_lt c.value n then a.value * 2 ^ c.value % 2 ^ n else 0)) p)))
    where
      by_test : (t : Bool) → (if t then 1 * 2 ^ c.value % 2 ^ w else 0) * a.value % 2 ^ w ≡ (if t then a.value * 2 ^ c.value % 2 ^ w else 0)
      by_test true =
          let once : 1 * 2 ^ c.value * a.value ≡ a.value * 2 ^ c.value = ap (λ (n : ℕ). n * a.value) (one-mul (2 ^ c.value)) ∙ mul_comm (2 ^ c.value) a.value in
          mul-mod_first (1 * 2 ^ c.value) a.value (2 ^ w) ∙ ap (λ (n : ℕ). n % 2 ^ w) once
      by_test false =
          let some : 0 < 2 ^ w = pow_pos w in
          let none : 0 * a.value < 2 ^ w = omega arith in
          mod-eq_of_lt none ∙ omega arith

  pub op-complement : (a : Bits) → IsWord a → a.width ≡ w → op1_value Dec (op1_value Neg a) ≡ op1_value Not a
  op-complement a is p = ap (bits a.width) (turned (2 ^ a.width) a.value is.fits)
    where
      turned : (m x : ℕ) → x < m → ((m - x) % m + (m - 1)) % m ≡ m - 1 - x
      turned m x h =
          let sum : m - x + (m - 1) ≡ m - 1 - x + 1 * m = omega arith in
          let less : m - 1 - x < m = omega arith in
          mod-add-mod (m - x) m (m - 1) ∙ (ap (λ (n : ℕ). n % m) sum ∙ (add-mul-mod_self_right (m - 1 - x) 1 m ∙ mod-eq_of_lt less))
