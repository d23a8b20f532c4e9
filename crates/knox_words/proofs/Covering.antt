-- The words of some widths by number: each list of words that fits has one number below 2 to the sum
-- of the widths, and each such number gives words that fit.
use Rattle.std.proofs.Common.{◌≡◌, ℕ, ◌+◌, ◌*◌, ◌/◌, ◌%◌, ◌^◌, ◌<◌, List, [], ◌∷◌, ◌++◌, length, true, refl, ap, ◌∙◌, arith}
use Rattle.std.proofs.lemmas.Bool.{and_parts, and_from}
use Rattle.std.proofs.lemmas.Nat.{pow_pos, pow-add, mod-mul-add, div-mul-add, div-add-mod', shr_below}
use Rattle.std.proofs.Math.Nat.{mod-lt, zero-mod, zero-div}
use Rattle.knox_words.specs.Bits.{bits}
use Rattle.knox_words.specs.Lists.{Words, fits, fit, are_widths, zeros, total, decoded, number}
use Rattle.knox_words.proofs.Lists.{fits-below, fits-bits, bits-value, are_widths-first, are_widths-rest}

pub total-append : (ws vs : List ℕ) → total (ws ++ vs) ≡ total ws + total vs
total-append [] vs = omega arith
total-append (w ∷ ws) vs = let rest : total (ws ++ vs) ≡ total ws + total vs = total-append ws vs in omega arith

pub number-below : (ws : List ℕ) (as' : Words) → fit ws as' ≡ true → number ws as' < 2 ^ total ws
number-below [] as' h = omega arith
number-below (w ∷ ws) [] h = cc
number-below (w ∷ ws) (a ∷ as') h =
    let both = and_parts (fits w a) (fit ws as') h in
    let first : a.value < 2 ^ w = fits-below w a both.0 in
    let rest : number ws as' < 2 ^ total ws = number-below ws as' both.1 in
    rw (pow-add 2 w (total ws)) (product_below a.value (2 ^ w) (number ws as') (2 ^ total ws) first rest)
  where
    product_below : (x m y n : ℕ) → x < m → y < n → x * n + y < m * n
    product_below x m y n p q = grind arith

pub decoded-number : (ws : List ℕ) (as' : Words) → fit ws as' ≡ true → decoded ws (number ws as') ≡ as'
decoded-number [] [] h = refl
decoded-number [] (a ∷ as') h = cc
decoded-number (w ∷ ws) [] h = cc
decoded-number (w ∷ ws) (a ∷ as') h =
    let both = and_parts (fits w a) (fit ws as') h in
    let below : number ws as' < 2 ^ total ws = number-below ws as' both.1 in
    let rest : decoded ws (number ws as') ≡ as' = decoded-number ws as' both.1 in
    let front : bits w a.value ≡ a = bits-value w a both.0 in
    rw (div-mul-add a.value (2 ^ total ws) (number ws as') below, mod-mul-add a.value (2 ^ total ws) (number ws as') below)
    (ap (λ x. x ∷ decoded ws (number ws as')) front ∙ ap (λ l. a ∷ l) rest)

pub length-decoded : (ws : List ℕ) (n : ℕ) → length (decoded ws n) ≡ length ws
length-decoded [] n = refl
length-decoded (w ∷ ws) n = let rest = length-decoded ws (n % 2 ^ total ws) in rw rest refl

pub fit-decoded : (ws : List ℕ) (n : ℕ) → are_widths ws ≡ true → n < 2 ^ total ws → fit ws (decoded ws n) ≡ true
fit-decoded [] n h below = refl
fit-decoded (w ∷ ws) n h below =
    let range = are_widths-first w ws h in
    let first : n / 2 ^ total ws < 2 ^ w = shr_below n w (total ws) below in
    let rest : n % 2 ^ total ws < 2 ^ total ws = mod-lt n (pow_pos (total ws)) in
    and_from (fits w (bits w (n / 2 ^ total ws))) (fit ws (decoded ws (n % 2 ^ total ws)))
    (fits-bits w (n / 2 ^ total ws) range.0 range.1 first)
    (fit-decoded ws (n % 2 ^ total ws) (are_widths-rest w ws h) rest)

pub number-decoded : (ws : List ℕ) (n : ℕ) → n < 2 ^ total ws → number ws (decoded ws n) ≡ n
number-decoded [] n below = omega arith
number-decoded (w ∷ ws) n below =
    let lower : n % 2 ^ total ws < 2 ^ total ws = mod-lt n (pow_pos (total ws)) in
    let rest : number ws (decoded ws (n % 2 ^ total ws)) ≡ n % 2 ^ total ws = number-decoded ws (n % 2 ^ total ws) lower in
    rw rest (div-add-mod' n (2 ^ total ws))

pub decoded-zero : (ws : List ℕ) → decoded ws 0 ≡ zeros ws
decoded-zero [] = refl
decoded-zero (w ∷ ws) = rw (zero-div (2 ^ total ws), zero-mod (2 ^ total ws)) (ap (λ l. bits w 0 ∷ l) (decoded-zero ws))

-- what holds of the words of each number holds of all words that fit
pub record IsNumbered (ws : List ℕ) (as' : Words) : Type 0 where
  pub place : ℕ
  pub below : place < 2 ^ total ws
  pub words : decoded ws place ≡ as'

pub covered : (ws : List ℕ) (as' : Words) → fit ws as' ≡ true → IsNumbered ws as'
covered ws as' h = record { place = number ws as'; below = number-below ws as' h; words = decoded-number ws as' h }
