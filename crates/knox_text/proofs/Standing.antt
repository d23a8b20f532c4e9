-- Tokens stand in their line where their places say.
use Rattle.std.proofs.Common.{◌≡◌, ℕ, suc, ◌-◌, ◌≤◌, true, false, List, [], ◌∷◌, length, take, drop, refl, sym, ap, ◌∙◌, arith, inl, inr}
use Rattle.std.specs.List.{AllByRecursion}
use Rattle.knox_text.specs.Tokens.{Token, token, tokens, is_blank, begins_token, longer, Stands}
use Rattle.knox_text.proofs.Numbering.{bool_cases}

one-on : (n left : ℕ) → left ≤ n → suc n - left ≡ suc (n - left)
one-on n left h = omega (arith, h)

behind : (b : ℕ) (bytes : List ℕ) (t : Token) → Stands bytes t → Stands (b ∷ bytes) t
behind b bytes t s = (
  (let h = s.0 in omega (arith, h)),
  ap (λ (k : ℕ). take (length t.bytes) (drop k (b ∷ bytes))) (one-on (length bytes) t.left s.0) ∙ s.1,
)

all-behind : (b : ℕ) (bytes : List ℕ) (ts : List Token) → AllByRecursion (Stands bytes) ts → AllByRecursion (Stands (b ∷ bytes)) ts
all-behind b bytes [] all = tt
all-behind b bytes (t ∷ ts) all = (behind b bytes t all.0, all-behind b bytes ts all.1)

none-before : (n : ℕ) → n - n ≡ 0
none-before n = omega arith

-- a token that begins with the line
at-front : (b : ℕ) (bytes front : List ℕ) → take (length front) bytes ≡ front → Stands (b ∷ bytes) (token (suc (length bytes)) (b ∷ front))
at-front b bytes front e = (
  omega arith,
  ap (λ (k : ℕ). take (suc (length front)) (drop k (b ∷ bytes))) (none-before (suc (length bytes))) ∙ ap (λ (l : List ℕ). b ∷ l) e,
)

-- the first token begins with the line
BeginsLine : List ℕ → List Token → Type 0
BeginsLine line [] = ⊥
BeginsLine line (t ∷ ts) = t.left ≡ length line

longer-begins : (c : ℕ) (cs : List ℕ) (ts : List Token) → BeginsLine (c ∷ cs) (longer c (suc (length cs)) ts)
unfolding BeginsLine
longer-begins c cs [] = refl
longer-begins c cs (t ∷ ts) = refl

begins : (line : List ℕ) → begins_token line ≡ true → BeginsLine line (tokens line)
unfolding BeginsLine
begins [] h = cc
begins (c ∷ cs) h = elim (bool_cases (is_blank c)) [
  | inl y ↦ let never : false ≡ true = rw y at h in cc
  | inr n ↦ elim (bool_cases (begins_token cs)) [
    | inl m ↦ rw (n, m) (longer-begins c cs (tokens cs))
    | inr m ↦ rw (n, m) refl
  ]
]

front-whole : (bytes : List ℕ) (t : Token) → Stands bytes t → t.left ≡ length bytes → take (length t.bytes) bytes ≡ t.bytes
front-whole bytes t s e =
    let none : length bytes - t.left ≡ 0 = omega (arith, e) in
    sym (ap (λ (k : ℕ). take (length t.bytes) (drop k bytes)) none) ∙ s.1

longer-stands : (b : ℕ) (bytes : List ℕ) (ts : List Token) → BeginsLine bytes ts → AllByRecursion (Stands bytes) ts → AllByRecursion (Stands (b ∷ bytes)) (longer b (suc (length bytes)) ts)
unfolding BeginsLine
longer-stands b bytes [] first all = absurd first
longer-stands b bytes (t ∷ ts) first all = (at-front b bytes t.bytes (front-whole bytes t all.0 first), all-behind b bytes ts all.1)

pub tokens-stand : (line : List ℕ) → AllByRecursion (Stands line) (tokens line)
tokens-stand [] = tt
tokens-stand (b ∷ bytes) = elim (bool_cases (is_blank b)) [
  | inl y ↦ rw y (all-behind b bytes (tokens bytes) (tokens-stand bytes))
  | inr n ↦ elim (bool_cases (begins_token bytes)) [
    | inl m ↦ rw (n, m) (longer-stands b bytes (tokens bytes) (begins bytes m) (tokens-stand bytes))
    | inr m ↦ rw (n, m) (at-front b bytes [] refl, all-behind b bytes (tokens bytes) (tokens-stand bytes))
  ]
]
