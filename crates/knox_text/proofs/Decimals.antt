-- Decimal digits: what is printed of a number is read again.
use Rattle.std.proofs.Common.{◌≡◌, ℕ, ◌-◌, ◌^◌, ◌≤◌, ◌<◌, ◌==◌, Bool, true, false, ltb, if◌then◌else◌, List, [], ◌∷◌, length, Option, Some, None, refl, sym, ap, ◌∙◌, arith, inl, inr}
use Rattle.std.specs.Prelude.{min}
use Rattle.std.specs.Char.{digit_value}
use Rattle.std.specs.List.{list_all}
use Rattle.std.specs.Fmt.{decimal}
use Rattle.std.specs.Str.Parse.{AllDigits, digits_value}
use Rattle.std.proofs.lemmas.Bool.{ltb-true, ltb-false, lt-ltb, le-leb, lt-leb, and_from, eqb-true, false_from_ne_true}
use Rattle.std.proofs.lemmas.Fmt.{decimal_is_IsNumeral_wide}
use Rattle.knox_text.specs.Numbers.{is_digit, has_digits, natural, at_most}
use Rattle.knox_text.proofs.Numbering.{bool_cases}
use Rattle.knox_text.proofs.Fronts.{in_token, in_line}

-- ---- the number of a token

has : (bytes : List ℕ) → 0 < length bytes → has_digits bytes ≡ true
has [] h = absurd (omega (arith, h))
has (d ∷ bytes) h = refl

pub natural-is : (token : List ℕ) (v : ℕ) → 0 < length token → list_all (is_digit 10) token ≡ true → v ≡ min (digits_value 10 token) (2 ^ 64) → natural token ≡ Some v
natural-is token v some digits e =
    ap (λ (t : Bool). if t then Some (min (digits_value 10 token) (2 ^ 64)) else None) (and_from (has_digits token) (list_all (is_digit 10) token) (has token some) digits)
    ∙ ap (λ (n : ℕ). Some n) (sym e)

pub natural-letters : (token : List ℕ) → list_all (is_digit 10) token ≡ false → natural token ≡ None
natural-letters [] h = refl
natural-letters (b ∷ token) h = rw h refl

pub natural-nothing : (token : List ℕ) → length token ≡ 0 → natural token ≡ None
natural-nothing [] h = refl
natural-nothing (b ∷ token) h = absurd (omega (arith, h))

pub ruleset natural_steps = (natural-is, natural-letters, natural-nothing)

pub limit-within : (limit v : ℕ) (o : Option ℕ) → o ≡ Some v → v ≤ limit → at_most limit o ≡ Some v
limit-within limit v None e h = cc
limit-within limit v (Some n) e h = let same : n ≡ v = cc in rw (same, le-leb v limit h) refl

pub limit-above : (limit v : ℕ) (o : Option ℕ) → o ≡ Some v → limit < v → at_most limit o ≡ None
limit-above limit v None e h = cc
limit-above limit v (Some n) e h = let same : n ≡ v = cc in rw (same, lt-leb v limit h) refl

pub limit-none : (limit : ℕ) (o : Option ℕ) → o ≡ None → at_most limit o ≡ None
limit-none limit o e = ap (at_most limit) e

pub ruleset limit_steps = (limit-within, limit-above, limit-none)

-- ---- digits are bytes of tokens and of lines

pub digit-range : (b : ℕ) → digit_value b < 10 → (48 ≤ b) × (b < 58)
digit-range b h = elim (bool_cases (ltb b 48)) [
  | inl y ↦ let never : 36 < 10 = rw y at h in absurd (omega arith)
  | inr n ↦ elim (bool_cases (ltb b 58)) [
    | inl y ↦ (ltb-false b 48 n, ltb-true b 58 y)
    | inr m ↦ elim (bool_cases (ltb b 65)) [
      | inl y ↦ let never : 36 < 10 = rw (n, m, y) at h in absurd (omega arith)
      | inr k ↦ elim (bool_cases (ltb b 91)) [
        | inl y ↦ let low : b - 55 < 10 = rw (n, m, k, y) at h in absurd (omega (arith, ltb-false b 65 k))
        | inr j ↦ elim (bool_cases (ltb b 97)) [
          | inl y ↦ let never : 36 < 10 = rw (n, m, k, j, y) at h in absurd (omega arith)
          | inr i ↦ elim (bool_cases (ltb b 123)) [
            | inl y ↦ let low : b - 87 < 10 = rw (n, m, k, j, i, y) at h in absurd (omega (arith, ltb-false b 97 i))
            | inr g ↦ let never : 36 < 10 = rw (n, m, k, j, i, g) at h in absurd (omega arith)
          ]
        ]
      ]
    ]
  ]
]

pub not-eqb : (a b : ℕ) → (a ≡ b → ⊥) → (a == b) ≡ false
not-eqb a b ne = false_from_ne_true (a == b) (λ e. ne (eqb-true a b e))

digit-token : (b : ℕ) → 48 ≤ b → b < 58 → in_token b ≡ true
digit-token b low high = rw (not-eqb b 32 (λ e. omega arith), not-eqb b 9 (λ e. omega arith)) refl

digit-line : (b : ℕ) → 48 ≤ b → b < 58 → in_line b ≡ true
digit-line b low high = rw (not-eqb b 10 (λ e. omega arith), not-eqb b 13 (λ e. omega arith)) refl

-- the bytes are digits
pub all-digits : (radix : ℕ) (bytes : List ℕ) → AllDigits radix bytes → list_all (is_digit radix) bytes ≡ true
all-digits radix [] all = refl
all-digits radix (b ∷ bytes) all = and_from (is_digit radix b) (list_all (is_digit radix) bytes) (lt-ltb _ _ all.0) (all-digits radix bytes all.1)

in-tokens : (bytes : List ℕ) → AllDigits 10 bytes → list_all in_token bytes ≡ true
in-tokens [] all = refl
in-tokens (b ∷ bytes) all =
    let range = digit-range b all.0 in
    and_from (in_token b) (list_all in_token bytes) (digit-token b range.0 range.1) (in-tokens bytes all.1)

in-lines : (bytes : List ℕ) → AllDigits 10 bytes → list_all in_line bytes ≡ true
in-lines [] all = refl
in-lines (b ∷ bytes) all =
    let range = digit-range b all.0 in
    and_from (in_line b) (list_all in_line bytes) (digit-line b range.0 range.1) (in-lines bytes all.1)

-- ---- what is printed of a number

pub record IsNatural (bytes : List ℕ) (n : ℕ) : Type 0 where
  pub some : 0 < length bytes
  pub all : AllDigits 10 bytes
  pub in_tokens : list_all in_token bytes ≡ true
  pub in_lines : list_all in_line bytes ≡ true
  pub digits : list_all (is_digit 10) bytes ≡ true
  pub reads : natural bytes ≡ Some n

pub decimal-natural : (n : ℕ) → n < 2 ^ 64 → IsNatural (decimal n) n
decimal-natural n lt =
    let h = decimal_is_IsNumeral_wide n (omega arith) in
    let digits = all-digits 10 (decimal n) h.0.1 in
    let value : digits_value 10 (decimal n) ≡ n = h.1 in
    record {
      some = h.0.0;
      all = h.0.1;
      in_tokens = in-tokens (decimal n) h.0.1;
      in_lines = in-lines (decimal n) h.0.1;
      digits = digits;
      reads = natural-is (decimal n) n h.0.0 digits (omega (arith, value));
    }
