-- Signed readings of words.
use Rattle.std.proofs.Common.{◌≡◌, ℕ, zero, suc, ◌+◌, ◌-◌, ◌*◌, ◌%◌, ◌/◌, ◌<◌, ◌≤◌, ◌^◌, ◌⊎◌, inl, inr, true, false, ℤ, pos, negsuc, neg_ℤ, ◌*ℤ◌, ◌-ℤ◌, ◌+ℤ◌, nat_le, int_div, int_rem, arith, refl, sym, ◌∙◌, ap, unsigned_abs}
use Rattle.std.proofs.lemmas.Nat.{pow_pos, mod-mul-add, div-add-mod'}
use Rattle.std.proofs.lemmas.Int.{ints, quot-rem}
use Rattle.std.proofs.lemmas.Bool.{cases_lt}
use Rattle.std.proofs.lemmas.Grind.{common_steps}
use Rattle.std.proofs.Math.Nat.{mod-eq_of_lt, mod_self, zero-mod, div-le_self, mod-lt}
use Rattle.std.proofs.Math.IntN.{*ℤ_comm}
use Rattle.std.proofs.Math.Pow.{pow_mono}
use Rattle.knox_words.specs.Signs.{sg, magnitude, rest, floor_div}

-- 2 ^ w is twice its half
pub halves : (w : ℕ) → 1 ≤ w → 2 ^ w ≡ 2 ^ (w - 1) + 2 ^ (w - 1)
halves w h = let e : w ≡ (w - 1) + 1 = omega arith in grind (arith, common_steps)

pub sg_pos : (w a : ℕ) → nat_le (2 ^ (w - 1)) a ≡ false → sg w a ≡ pos a
sg_pos w a h = grind (arith, common_steps)

pub sg_neg : (w a : ℕ) → nat_le (2 ^ (w - 1)) a ≡ true → sg w a ≡ negsuc (2 ^ w - 1 - a)
sg_neg w a h = grind (arith, common_steps)

pub magnitude_pos : (w a : ℕ) → nat_le (2 ^ (w - 1)) a ≡ false → magnitude w a ≡ a
magnitude_pos w a h = grind (arith, common_steps)

pub magnitude_neg : (w a : ℕ) → nat_le (2 ^ (w - 1)) a ≡ true → magnitude w a ≡ 2 ^ w - a
magnitude_neg w a h = grind (arith, common_steps)

pub rest-neg : (q m : ℕ) → q < m → rest (neg_ℤ (pos q)) m ≡ (m - q) % m
rest-neg zero m h = zero-mod m ∙ (sym (mod_self m) ∙ ap (λ (k : ℕ). k % m) (omega arith))
rest-neg (suc k) m h =
    let l : k < m = omega arith in
    let below : m - suc k < m = omega arith in
    rw (mod-eq_of_lt l, mod-eq_of_lt below) (omega arith)

pub rest-pos : (q m : ℕ) → q < m → rest (pos q) m ≡ q % m
rest-pos q m h = refl

-- what a remainder is, from its product
pub less_product : (a b q r : ℤ) → q *ℤ b +ℤ r ≡ a → a -ℤ (b *ℤ q) ≡ r
less_product a b q r e =
    let c : b *ℤ q ≡ q *ℤ b = *ℤ_comm b q in
    rw c (omega (arith, ints))

pub trunc_left : (x y : ℤ) → x -ℤ (y *ℤ int_div x y) ≡ int_rem x y
trunc_left x y = less_product x y (int_div x y) (int_rem x y) (quot-rem x y)

-- the distance of the remainder that is rounded down
abbrev pub floor_left : ℤ → ℤ → ℤ
floor_left (pos a) (pos b) = pos (a % b)
floor_left (pos zero) (negsuc b) = pos 0
floor_left (pos (suc a)) (negsuc b) = neg_ℤ (pos (b - a % suc b))
floor_left (negsuc a) (pos b) = pos (b - 1 - a % b)
floor_left (negsuc a) (negsuc b) = neg_ℤ (pos (suc a % suc b))

-- one more than a number, from its remainder
pub up_left : (a n : ℕ) → 0 < n → n - 1 - a % n ≡ (n - suc a % n) % n
up_left a n h =
    let low : a % n < n = mod-lt a h in
    let whole : a / n * n + a % n ≡ a = div-add-mod' a n in
    elim (is_last (a % n) n low) [
      | inl last ↦
          let e : suc a ≡ (a / n + 1) * n + 0 = omega arith in
          let z : suc a % n ≡ 0 = ap (λ (k : ℕ). k % n) e ∙ mod-mul-add (a / n + 1) n 0 h in
          let l : n - 1 - a % n ≡ 0 = omega arith in
          rw (z, l) (sym (mod_self n) ∙ ap (λ (k : ℕ). k % n) (omega arith))
      | inr more ↦
          let e : suc a ≡ a / n * n + suc (a % n) = omega arith in
          let z : suc a % n ≡ suc (a % n) = ap (λ (k : ℕ). k % n) e ∙ mod-mul-add (a / n) n (suc (a % n)) more in
          let l : n - suc (a % n) < n = omega arith in
          rw (z, mod-eq_of_lt l) (omega arith)
    ]
  where
    is_last : (r n : ℕ) → r < n → (suc r ≡ n) ⊎ (suc r < n)
    is_last r n h = elim (cases_lt (suc r) n) [ inl p ↦ inr p | inr q ↦ inl (omega arith) ]

pub floor_left-is : (x y : ℤ) → 0 < unsigned_abs y → x -ℤ (y *ℤ floor_div x y) ≡ floor_left x y
floor_left-is (pos a) (pos b) h = less_product (pos a) (pos b) (pos (a / b)) (pos (a % b)) (ap pos (div-add-mod' a b))
floor_left-is (pos zero) (negsuc b) h = less_product (pos 0) (negsuc b) (pos 0) (pos 0) (omega (arith, ints))
floor_left-is (pos (suc a)) (negsuc b) h =
    let low : a % suc b < suc b = mod-lt a h in
    let whole : a / suc b * suc b + a % suc b ≡ a = div-add-mod' a (suc b) in
    less_product (pos (suc a)) (negsuc b) (negsuc (a / suc b)) (neg_ℤ (pos (b - a % suc b))) (omega (arith, ints))
floor_left-is (negsuc a) (pos b) h =
    let low : a % b < b = mod-lt a h in
    let whole : a / b * b + a % b ≡ a = div-add-mod' a b in
    less_product (negsuc a) (pos b) (negsuc (a / b)) (pos (b - 1 - a % b)) (omega (arith, ints))
floor_left-is (negsuc a) (negsuc b) h =
    let whole : suc a / suc b * suc b + suc a % suc b ≡ suc a = div-add-mod' (suc a) (suc b) in
    less_product (negsuc a) (negsuc b) (pos (suc a / suc b)) (neg_ℤ (pos (suc a % suc b))) (omega (arith, ints))

pub abs_sg : (w b : ℕ) → b < 2 ^ w → unsigned_abs (sg w b) ≡ magnitude w b
abs_sg w b h = grind (arith, common_steps)

pub magnitude_above : (w b : ℕ) → 0 < b → b < 2 ^ w → 0 < magnitude w b
magnitude_above w b l h = grind (arith, common_steps)

pub magnitude_below : (w b : ℕ) → 1 ≤ w → b < 2 ^ w → magnitude w b < 2 ^ w
magnitude_below w b l h = let e = halves w l in let q : 0 < 2 ^ (w - 1) = pow_pos (w - 1) in grind (arith, common_steps)

pub one_magnitude : (w a : ℕ) → nat_le (2 ^ (w - 1)) a ≡ true → a < 2 ^ w → suc (2 ^ w - 1 - a) ≡ magnitude w a
one_magnitude w a s h = let e : suc (2 ^ w - 1 - a) ≡ 2 ^ w - a = omega arith in e ∙ sym (magnitude_neg w a s)

-- srem
abbrev pub srem_rest : ℕ → ℕ → ℕ → ℕ
srem_rest w a b = rest (sg w a -ℤ (sg w b *ℤ int_div (sg w a) (sg w b))) (2 ^ w)

pub srem_pos : (w a b : ℕ) → nat_le (2 ^ (w - 1)) a ≡ false → b < 2 ^ w → srem_rest w a b ≡ (magnitude w a % magnitude w b) % 2 ^ w
srem_pos w a b s h = rw (trunc_left (sg w a) (sg w b), sg_pos w a s, abs_sg w b h, magnitude_pos w a s) refl

pub srem_neg : (w a b : ℕ) → 1 ≤ w → nat_le (2 ^ (w - 1)) a ≡ true → 0 < b → a < 2 ^ w → b < 2 ^ w → srem_rest w a b ≡ (2 ^ w - magnitude w a % magnitude w b) % 2 ^ w
srem_neg w a b l s p k h =
    let abs : unsigned_abs (sg w b) ≡ magnitude w b = abs_sg w b h in
    let some : 0 < magnitude w b = magnitude_above w b p h in
    let low : magnitude w a % magnitude w b < magnitude w b = mod-lt (magnitude w a) some in
    let under : magnitude w b < 2 ^ w = magnitude_below w b l h in
    let fits : magnitude w a % magnitude w b < 2 ^ w = omega arith in
    let one : suc (2 ^ w - 1 - a) ≡ magnitude w a = one_magnitude w a s k in
    rw (trunc_left (sg w a) (sg w b), sg_neg w a s, abs, sym one) (rw one (rest-neg (magnitude w a % magnitude w b) (2 ^ w) fits))

-- sdiv
abbrev pub sdiv_rest : ℕ → ℕ → ℕ → ℕ
sdiv_rest w a b = rest (int_div (sg w a) (sg w b)) (2 ^ w)

quotient_below : (w a b : ℕ) → 1 ≤ w → a < 2 ^ w → magnitude w a / magnitude w b < 2 ^ w
quotient_below w a b l h =
    let under : magnitude w a < 2 ^ w = magnitude_below w a l h in
    let le : magnitude w a / magnitude w b ≤ magnitude w a = div-le_self (magnitude w a) (magnitude w b) in
    omega arith

pub sdiv_pos-pos : (w a b : ℕ) → nat_le (2 ^ (w - 1)) a ≡ false → nat_le (2 ^ (w - 1)) b ≡ false → sdiv_rest w a b ≡ (magnitude w a / magnitude w b) % 2 ^ w
sdiv_pos-pos w a b s t = rw (sg_pos w a s, sg_pos w b t, magnitude_pos w a s, magnitude_pos w b t) refl

pub sdiv_neg-neg : (w a b : ℕ) → nat_le (2 ^ (w - 1)) a ≡ true → nat_le (2 ^ (w - 1)) b ≡ true → a < 2 ^ w → b < 2 ^ w → sdiv_rest w a b ≡ (magnitude w a / magnitude w b) % 2 ^ w
sdiv_neg-neg w a b s t h k = rw (sg_neg w a s, sg_neg w b t, sym (one_magnitude w a s h), sym (one_magnitude w b t k)) refl

pub sdiv_pos-neg : (w a b : ℕ) → 1 ≤ w → nat_le (2 ^ (w - 1)) a ≡ false → nat_le (2 ^ (w - 1)) b ≡ true → a < 2 ^ w → b < 2 ^ w → sdiv_rest w a b ≡ (2 ^ w - magnitude w a / magnitude w b) % 2 ^ w
sdiv_pos-neg w a b l s t h k = rw (sym (rest-neg (magnitude w a / magnitude w b) (2 ^ w) (quotient_below w a b l h))) (rw (sg_pos w a s, sg_neg w b t, magnitude_pos w a s, sym (one_magnitude w b t k)) refl)

pub sdiv_neg-pos : (w a b : ℕ) → 1 ≤ w → nat_le (2 ^ (w - 1)) a ≡ true → nat_le (2 ^ (w - 1)) b ≡ false → a < 2 ^ w → b < 2 ^ w → sdiv_rest w a b ≡ (2 ^ w - magnitude w a / magnitude w b) % 2 ^ w
sdiv_neg-pos w a b l s t h k = rw (sym (rest-neg (magnitude w a / magnitude w b) (2 ^ w) (quotient_below w a b l h))) (rw (sg_neg w a s, sg_pos w b t, sym (one_magnitude w a s h), magnitude_pos w b t) refl)

-- smod
abbrev pub smod_rest : ℕ → ℕ → ℕ → ℕ
smod_rest w a b = rest (sg w a -ℤ (sg w b *ℤ floor_div (sg w a) (sg w b))) (2 ^ w)

floored : (w a b : ℕ) → 0 < b → b < 2 ^ w → smod_rest w a b ≡ rest (floor_left (sg w a) (sg w b)) (2 ^ w)
floored w a b p h =
    let abs : unsigned_abs (sg w b) ≡ magnitude w b = abs_sg w b h in
    let some : 0 < unsigned_abs (sg w b) = rw abs (magnitude_above w b p h) in
    ap (λ z. rest z (2 ^ w)) (floor_left-is (sg w a) (sg w b) some)

pub smod_pos-pos : (w a b : ℕ) → nat_le (2 ^ (w - 1)) a ≡ false → nat_le (2 ^ (w - 1)) b ≡ false → 0 < b → b < 2 ^ w → smod_rest w a b ≡ (magnitude w a % magnitude w b) % 2 ^ w
smod_pos-pos w a b s t p h = floored w a b p h ∙ rw (sg_pos w a s, sg_pos w b t, magnitude_pos w a s, magnitude_pos w b t) refl

left_fits : (w a b : ℕ) → 1 ≤ w → 0 < b → b < 2 ^ w → magnitude w a % magnitude w b < 2 ^ w
left_fits w a b l p h =
    let under : magnitude w b < 2 ^ w = magnitude_below w b l h in
    let low : magnitude w a % magnitude w b < magnitude w b = mod-lt (magnitude w a) (magnitude_above w b p h) in
    omega arith

pub smod_neg-neg : (w a b : ℕ) → 1 ≤ w → nat_le (2 ^ (w - 1)) a ≡ true → nat_le (2 ^ (w - 1)) b ≡ true → 0 < b → a < 2 ^ w → b < 2 ^ w → smod_rest w a b ≡ (2 ^ w - magnitude w a % magnitude w b) % 2 ^ w
smod_neg-neg w a b l s t p k h = floored w a b p h ∙ rw (sym (rest-neg (magnitude w a % magnitude w b) (2 ^ w) (left_fits w a b l p h))) (rw (sg_neg w a s, sg_neg w b t, sym (one_magnitude w a s k), sym (one_magnitude w b t h)) refl)

pub smod_neg-pos : (w a b : ℕ) → nat_le (2 ^ (w - 1)) a ≡ true → nat_le (2 ^ (w - 1)) b ≡ false → 0 < b → a < 2 ^ w → b < 2 ^ w → smod_rest w a b ≡ ((magnitude w b - magnitude w a % magnitude w b) % magnitude w b) % 2 ^ w
smod_neg-pos w a b s t p k h = floored w a b p h ∙ rw (sg_neg w a s, sg_pos w b t, sym (one_magnitude w a s k), magnitude_pos w b t) (ap (λ n. n % 2 ^ w) (up_left (2 ^ w - 1 - a) b p))

floor_left-over : (a y : ℕ) → floor_left (pos a) (negsuc y) ≡ neg_ℤ (pos ((suc y - a % suc y) % suc y))
floor_left-over zero y =
    let none : (suc y - 0) % suc y ≡ 0 = ap (λ k. k % suc y) (omega arith) ∙ mod_self (suc y) in
    rw (zero-mod (suc y), none) refl
floor_left-over (suc a) y =
    let up : suc y - 1 - a % suc y ≡ (suc y - suc a % suc y) % suc y = up_left a (suc y) (omega arith) in
    let one : suc y - 1 - a % suc y ≡ y - a % suc y = omega arith in
    ap (λ n. neg_ℤ (pos n)) (sym one ∙ up)

pub smod_pos-neg : (w a b : ℕ) → 1 ≤ w → nat_le (2 ^ (w - 1)) a ≡ false → nat_le (2 ^ (w - 1)) b ≡ true → 0 < b → b < 2 ^ w → smod_rest w a b ≡ (2 ^ w - (magnitude w b - magnitude w a % magnitude w b) % magnitude w b) % 2 ^ w
smod_pos-neg w a b l s t p h =
    let under : magnitude w b < 2 ^ w = magnitude_below w b l h in
    let low : (magnitude w b - magnitude w a % magnitude w b) % magnitude w b < magnitude w b = mod-lt (magnitude w b - magnitude w a % magnitude w b) (magnitude_above w b p h) in
    let fits : (magnitude w b - magnitude w a % magnitude w b) % magnitude w b < 2 ^ w = omega arith in
    floored w a b p h ∙ rw (sym (rest-neg _ (2 ^ w) fits)) (rw (sg_pos w a s, sg_neg w b t, magnitude_pos w a s, sym (one_magnitude w b t h)) (ap (λ z. rest z (2 ^ w)) (floor_left-over a (2 ^ w - 1 - b))))

-- sra and sext
pub sra_neg : (w a k all : ℕ) → all + 1 ≡ 2 ^ w → nat_le (2 ^ (w - 1)) a ≡ true → rest (floor_div (sg w a) (pos (2 ^ k))) (2 ^ w) ≡ (all - (all - a) / 2 ^ k) % 2 ^ w
sra_neg w a k all e s =
    let is : 2 ^ w - 1 - a ≡ all - a = omega arith in
    let le : (all - a) / 2 ^ k ≤ all - a = div-le_self (all - a) (2 ^ k) in
    let low : (all - a) / 2 ^ k < 2 ^ w = omega arith in
    let high : all - (all - a) / 2 ^ k < 2 ^ w = omega arith in
    rw (sg_neg w a s, is, mod-eq_of_lt low, mod-eq_of_lt high) (omega arith)

pub sra_pos : (w a k : ℕ) → nat_le (2 ^ (w - 1)) a ≡ false → rest (floor_div (sg w a) (pos (2 ^ k))) (2 ^ w) ≡ (a / 2 ^ k) % 2 ^ w
sra_pos w a k s = rw (sg_pos w a s) refl

pub sext_neg : (w v a all wide : ℕ) → all + 1 ≡ 2 ^ w → wide + 1 ≡ 2 ^ v → w ≤ v → nat_le (2 ^ (w - 1)) a ≡ true → rest (sg w a) (2 ^ v) ≡ (wide - (all - a)) % 2 ^ v
sext_neg w v a all wide e f le s =
    let more : 2 ^ w ≤ 2 ^ v = pow_mono le in
    let is : 2 ^ w - 1 - a ≡ all - a = omega arith in
    let low : all - a < 2 ^ v = omega arith in
    let high : wide - (all - a) < 2 ^ v = omega arith in
    rw (sg_neg w a s, is, mod-eq_of_lt low, mod-eq_of_lt high) (omega arith)

pub sext_pos : (w v a : ℕ) → nat_le (2 ^ (w - 1)) a ≡ false → rest (sg w a) (2 ^ v) ≡ a % 2 ^ v
sext_pos w v a s = rw (sg_pos w a s) refl

pub ruleset signed_quotients = (sdiv_pos-pos, sdiv_neg-neg, sdiv_pos-neg, sdiv_neg-pos)

pub ruleset signed_rests = (smod_pos-pos, smod_neg-neg, smod_pos-neg, smod_neg-pos)
