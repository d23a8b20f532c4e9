-- Tokens and lines at the front of what they were put before.
use Rattle.std.proofs.Common.{◌≡◌, ℕ, suc, ◌<◌, ◌==◌, Bool, true, false, not, ◌&&◌, if◌then◌else◌, List, [], ◌∷◌, ◌++◌, length, ap, ◌∙◌, refl, arith}
use Rattle.std.specs.List.{list_all}
use Rattle.std.proofs.lemmas.Bool.{and_parts}
use Rattle.knox_text.specs.Lines.{lines, begun, begins_with}
use Rattle.knox_text.specs.Tokens.{Token, token, tokens, is_blank, longer, with_letter}

pub not-true : (b : Bool) → not b ≡ true → b ≡ false
not-true true e = cc
not-true false e = refl

-- a byte that ends neither a token nor a line
abbrev pub in_token : ℕ → Bool
in_token b = not (is_blank b)

abbrev pub in_line : ℕ → Bool
in_line b = not (b == 10) && not (b == 13)

-- ---- tokens at the front of a line

with-letter : (b left : ℕ) (more : Bool) (ts : List Token) → in_token b ≡ true → with_letter b left more ts ≡ (if more then longer b left ts else token left (b ∷ []) ∷ ts)
with-letter b left more ts s = ap (λ (t : Bool). if t then ts else if more then longer b left ts else token left (b ∷ []) ∷ ts) (not-true (is_blank b) s)

-- a token, and a space behind it
token-front : (b : ℕ) (w rest : List ℕ) → list_all in_token (b ∷ w) ≡ true → tokens (b ∷ (w ++ 32 ∷ rest)) ≡ token (suc (length (w ++ 32 ∷ rest))) (b ∷ w) ∷ tokens rest
token-front b [] rest h = with-letter b (suc (length (32 ∷ rest))) false (tokens (32 ∷ rest)) (and_parts (in_token b) true h).0
token-front b (c ∷ w) rest h =
    let p = and_parts (in_token b) (list_all in_token (c ∷ w)) h in
    let q = and_parts (in_token c) (list_all in_token w) p.1 in
    let others = tokens (c ∷ (w ++ 32 ∷ rest)) in
    let left = suc (suc (length (w ++ 32 ∷ rest))) in
    with-letter b left (in_token c) others p.0
    ∙ ap (λ (t : Bool). if t then longer b left others else token left (b ∷ []) ∷ others) q.0
    ∙ ap (longer b left) (token-front c w rest p.1)

-- the last token of a line
token-back : (b : ℕ) (w : List ℕ) → list_all in_token (b ∷ w) ≡ true → tokens (b ∷ w) ≡ token (suc (length w)) (b ∷ w) ∷ []
token-back b [] h = with-letter b 1 false [] (and_parts (in_token b) true h).0
token-back b (c ∷ w) h =
    let p = and_parts (in_token b) (list_all in_token (c ∷ w)) h in
    let q = and_parts (in_token c) (list_all in_token w) p.1 in
    let others = tokens (c ∷ w) in
    let left = suc (suc (length w)) in
    with-letter b left (in_token c) others p.0
    ∙ ap (λ (t : Bool). if t then longer b left others else token left (b ∷ []) ∷ others) q.0
    ∙ ap (longer b left) (token-back c w p.1)

pub first-token : (w rest : List ℕ) → 0 < length w → list_all in_token w ≡ true → tokens (w ++ 32 ∷ rest) ≡ token (length (w ++ 32 ∷ rest)) w ∷ tokens rest
first-token [] rest some h = absurd (omega arith)
first-token (b ∷ w) rest some h = token-front b w rest h

pub last-token : (w : List ℕ) → 0 < length w → list_all in_token w ≡ true → tokens w ≡ token (length w) w ∷ []
last-token [] some h = absurd (omega arith)
last-token (b ∷ w) some h = token-back b w h

-- ---- lines at the front of a text

pub first-line : (l rest : List ℕ) → list_all in_line l ≡ true → lines (l ++ 10 ∷ rest) ≡ l ∷ lines rest
first-line [] rest h = refl
first-line (b ∷ l) rest h =
    let p = and_parts (in_line b) (list_all in_line l) h in
    let q = and_parts (not (b == 10)) (not (b == 13)) p.0 in
    let others = lines (l ++ 10 ∷ rest) in
    let feed = begins_with 10 (l ++ 10 ∷ rest) in
    ap (λ (t : Bool). if t then [] ∷ others else if (b == 13) && feed then others else begun b others) (not-true (b == 10) q.0)
    ∙ ap (λ (t : Bool). if t && feed then others else begun b others) (not-true (b == 13) q.1)
    ∙ ap (begun b) (first-line l rest p.1)
