-- Numbers of bits.
use Rattle.std.proofs.Common.{◌≡◌, ℕ, suc, ◌+◌, ◌-◌, ◌*◌, ◌%◌, ◌^◌, ◌<◌, Bool, true, false, not, List, [], ◌∷◌, length, map, refl, sym, ◌∙◌, ap, subst, arith, if◌then◌else◌, bit_and, bit_or, bit_xor, ◌&&◌, ◌||◌, nat_le, inl, inr}
use Rattle.std.proofs.lemmas.Nat.{and_block, or_block, xor_block, mod-mul-add}
use Rattle.std.proofs.lemmas.Bool.Decides.{leb_tells}
use Rattle.bit_gates.specs.declared.signal.Signal.{Signal}
use Rattle.bit_gates.specs.declared.pairs.Pair.{Pair}
use Rattle.bit_gates.specs.declared.pairs.Pair.TheVariants as pair
use Rattle.bit_gates.specs.Gates.{differ}
use Rattle.bit_gates.specs.Words.{number, digit}
use Rattle.bit_gates.specs.Sums.{add_bits, add_carry, carry_bit}
use Rattle.bit_gates.specs.Pairs.{pair_bits}
use Rattle.bit_gates.proofs.SumLemmas.{number-add_bits}

digit-lt : (b : Bool) → digit b < 2
digit-lt true = omega arith
digit-lt false = omega arith

pub number-lt : (xs : List Bool) → number xs < 2 ^ length xs
number-lt [] = omega arith
number-lt (x ∷ xs) =
    let p : 2 ^ suc (length xs) ≡ 2 * 2 ^ length xs = omega arith in
    rw p (omega (arith, number-lt xs, digit-lt x))

pub number-not : (xs : List Bool) → number (map not xs) + number xs + 1 ≡ 2 ^ length xs
number-not [] = refl
number-not (x ∷ xs) =
    let p : 2 ^ suc (length xs) ≡ 2 * 2 ^ length xs = omega arith in
    let h = number-not xs in
    let d : digit (not x) + digit x ≡ 1 = elim x as (λ b. digit (not b) + digit b ≡ 1) [ true ↦ refl | false ↦ refl ] in
    rw p (omega (arith, h, d))

pub length-add_bits : (c : Bool) (xs ys : List Bool) → length xs ≡ length ys → length (add_bits c xs ys) ≡ length xs
length-add_bits c [] ys e = refl
length-add_bits c (x ∷ xs) [] e = absurd (omega arith)
length-add_bits c (x ∷ xs) (y ∷ ys) e = ap suc (length-add_bits (carry_bit x y c) xs ys (omega arith))

-- the sum is taken to as many bits
pub number-sum : (c : Bool) (xs ys : List Bool) → length xs ≡ length ys → number (add_bits c xs ys) ≡ (number xs + number ys + digit c) % 2 ^ length xs
number-sum c xs ys e =
    let h = number-add_bits c xs ys e in
    let lt : number (add_bits c xs ys) < 2 ^ length xs = subst (λ (k : ℕ). number (add_bits c xs ys) < 2 ^ k) (length-add_bits c xs ys e) (number-lt (add_bits c xs ys)) in
    let split : number xs + number ys + digit c ≡ digit (add_carry c xs ys) * 2 ^ length xs + number (add_bits c xs ys) = omega (arith, h) in
    sym (ap (λ (n : ℕ). n % 2 ^ length xs) split ∙ mod-mul-add (digit (add_carry c xs ys)) (2 ^ length xs) (number (add_bits c xs ys)) lt)

and-digits : (x y : Bool) (n m : ℕ) → bit_and (digit x + 2 * n) (digit y + 2 * m) ≡ digit (x && y) + 2 * bit_and n m
and-digits x y n m =
    let ex : digit x + 2 * n ≡ n * 2 ^ 1 + digit x = omega arith in
    let ey : digit y + 2 * m ≡ m * 2 ^ 1 + digit y = omega arith in
    let e : bit_and (n * 2 ^ 1 + digit x) (m * 2 ^ 1 + digit y) ≡ bit_and n m * 2 ^ 1 + bit_and (digit x) (digit y) = and_block 1 n m (digit x) (digit y) (digit-lt x) (digit-lt y) in
    let d : bit_and (digit x) (digit y) ≡ digit (x && y) = low x y in
    rw (ex, ey) (e ∙ omega (arith, d))
  where
    low : (x y : Bool) → bit_and (digit x) (digit y) ≡ digit (x && y)
    low true true = refl
    low true false = refl
    low false true = refl
    low false false = refl

pub number-and : (at : Signal → Bool) (xs ys : List Bool) → length xs ≡ length ys → number (pair_bits at pair.And xs ys) ≡ bit_and (number xs) (number ys)
number-and at [] [] e = refl
number-and at [] (y ∷ ys) e = absurd (omega arith)
number-and at (x ∷ xs) [] e = absurd (omega arith)
number-and at (x ∷ xs) (y ∷ ys) e = rw (and-digits x y (number xs) (number ys), number-and at xs ys (omega arith)) refl

or-digits : (x y : Bool) (n m : ℕ) → bit_or (digit x + 2 * n) (digit y + 2 * m) ≡ digit (x || y) + 2 * bit_or n m
or-digits x y n m =
    let ex : digit x + 2 * n ≡ n * 2 ^ 1 + digit x = omega arith in
    let ey : digit y + 2 * m ≡ m * 2 ^ 1 + digit y = omega arith in
    let e : bit_or (n * 2 ^ 1 + digit x) (m * 2 ^ 1 + digit y) ≡ bit_or n m * 2 ^ 1 + bit_or (digit x) (digit y) = or_block 1 n m (digit x) (digit y) (digit-lt x) (digit-lt y) in
    let d : bit_or (digit x) (digit y) ≡ digit (x || y) = low x y in
    rw (ex, ey) (e ∙ omega (arith, d))
  where
    low : (x y : Bool) → bit_or (digit x) (digit y) ≡ digit (x || y)
    low true true = refl
    low true false = refl
    low false true = refl
    low false false = refl

pub number-or : (at : Signal → Bool) (xs ys : List Bool) → length xs ≡ length ys → number (pair_bits at pair.Or xs ys) ≡ bit_or (number xs) (number ys)
number-or at [] [] e = refl
number-or at [] (y ∷ ys) e = absurd (omega arith)
number-or at (x ∷ xs) [] e = absurd (omega arith)
number-or at (x ∷ xs) (y ∷ ys) e = rw (or-digits x y (number xs) (number ys), number-or at xs ys (omega arith)) refl

xor-digits : (x y : Bool) (n m : ℕ) → bit_xor (digit x + 2 * n) (digit y + 2 * m) ≡ digit (differ x y) + 2 * bit_xor n m
xor-digits x y n m =
    let ex : digit x + 2 * n ≡ n * 2 ^ 1 + digit x = omega arith in
    let ey : digit y + 2 * m ≡ m * 2 ^ 1 + digit y = omega arith in
    let e : bit_xor (n * 2 ^ 1 + digit x) (m * 2 ^ 1 + digit y) ≡ bit_xor n m * 2 ^ 1 + bit_xor (digit x) (digit y) = xor_block 1 n m (digit x) (digit y) (digit-lt x) (digit-lt y) in
    let d : bit_xor (digit x) (digit y) ≡ digit (differ x y) = low x y in
    rw (ex, ey) (e ∙ omega (arith, d))
  where
    low : (x y : Bool) → bit_xor (digit x) (digit y) ≡ digit (differ x y)
    low true true = refl
    low true false = refl
    low false true = refl
    low false false = refl

pub number-xor : (at : Signal → Bool) (xs ys : List Bool) → length xs ≡ length ys → number (pair_bits at pair.Xor xs ys) ≡ bit_xor (number xs) (number ys)
number-xor at [] [] e = refl
number-xor at [] (y ∷ ys) e = absurd (omega arith)
number-xor at (x ∷ xs) [] e = absurd (omega arith)
number-xor at (x ∷ xs) (y ∷ ys) e = rw (xor-digits x y (number xs) (number ys), number-xor at xs ys (omega arith)) refl

same-both : (b : Bool) (xs : List Bool) → xs ≡ (if b then xs else xs)
same-both true xs = refl
same-both false xs = refl

pub picked : (at : Signal → Bool) (c : Signal) (xs ys : List Bool) → length xs ≡ length ys → pair_bits at (pair.Choose c) xs ys ≡ (if at c then xs else ys)
picked at c [] [] e = same-both (at c) []
picked at c [] (y ∷ ys) e = absurd (omega arith)
picked at c (x ∷ xs) [] e = absurd (omega arith)
picked at c (x ∷ xs) (y ∷ ys) e = rw (picked at c xs ys (omega arith)) (elim (at c) as (λ b. (if b then x else y) ∷ (if b then xs else ys) ≡ (if b then x ∷ xs else y ∷ ys)) [ true ↦ refl | false ↦ refl ])

-- numbers of as many bits are equal where each bit is
pub number-same : (xs ys : List Bool) → length xs ≡ length ys → number xs ≡ number ys → xs ≡ ys
number-same [] [] e n = refl
number-same [] (y ∷ ys) e n = absurd (omega arith)
number-same (x ∷ xs) [] e n = absurd (omega arith)
number-same (true ∷ xs) (true ∷ ys) e n = ap (λ (zs : List Bool). true ∷ zs) (number-same xs ys (omega arith) (omega arith))
number-same (false ∷ xs) (false ∷ ys) e n = ap (λ (zs : List Bool). false ∷ zs) (number-same xs ys (omega arith) (omega arith))
number-same (true ∷ xs) (false ∷ ys) e n = absurd (omega arith)
number-same (false ∷ xs) (true ∷ ys) e n = absurd (omega arith)

pub length-pair_bits : (at : Signal → Bool) (p : Pair) (xs ys : List Bool) → length xs ≡ length ys → length (pair_bits at p xs ys) ≡ length xs
length-pair_bits at p [] ys e = refl
length-pair_bits at p (x ∷ xs) [] e = absurd (omega arith)
length-pair_bits at p (x ∷ xs) (y ∷ ys) e = ap suc (length-pair_bits at p xs ys (omega arith))

pub length-not : (xs : List Bool) → length (map not xs) ≡ length xs
length-not [] = refl
length-not (x ∷ xs) = ap suc (length-not xs)

pub number-complement : (xs : List Bool) → number (map not xs) ≡ 2 ^ length xs - 1 - number xs
number-complement xs = omega (arith, number-not xs)

-- the carry of a sum with a complement and 1
pub carry-tells : (xs ys : List Bool) → length xs ≡ length ys → add_carry true xs (map not ys) ≡ nat_le (number ys) (number xs)
carry-tells xs ys e =
    let l : length xs ≡ length (map not ys) = e ∙ sym (length-not ys) in
    let h = number-add_bits true xs (map not ys) l in
    let lt : number (add_bits true xs (map not ys)) < 2 ^ length xs = subst (λ (k : ℕ). number (add_bits true xs (map not ys)) < 2 ^ k) (length-add_bits true xs (map not ys) l) (number-lt (add_bits true xs (map not ys))) in
    let n : number (map not ys) + number ys + 1 ≡ 2 ^ length xs = number-not ys ∙ ap (λ (k : ℕ). 2 ^ k) (sym e) in
    tells (add_carry true xs (map not ys)) (number (add_bits true xs (map not ys))) (2 ^ length xs) (number xs) (number ys) (number (map not ys)) h lt n
  where
    tells : (c : Bool) (s p n m k : ℕ) → s + p * digit c ≡ n + k + 1 → s < p → k + m + 1 ≡ p → c ≡ nat_le m n
    tells true s p n m k h lt e = elim (leb_tells m n) [
      | inl q ↦ sym q.0
      | inr q ↦ absurd (let g = q.1 in let i : s + p ≡ n + k + 1 = omega (arith, h) in omega (arith, i, lt, e, g))
    ]
    tells false s p n m k h lt e = elim (leb_tells m n) [
      | inl q ↦ absurd (let g = q.1 in let i : s ≡ n + k + 1 = omega (arith, h) in omega (arith, i, lt, e, g))
      | inr q ↦ sym q.0
    ]
