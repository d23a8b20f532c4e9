-- Tokens are cut off at the front of a line.
use Rattle.std.proofs.Common.{◌≡◌, ℕ, zero, suc, ◌+◌, ◌-◌, ◌<◌, ◌≤◌, not, Bool, true, false, List, [], ◌∷◌, length, map, take, drop, get_or, refl, sym, ◌∙◌, ap, subst, arith, inl, inr, if◌then◌else◌}
use Rattle.knox_text.specs.Tokens.{Token, token, tokens, is_blank, longer, bare_tokens}
use Rattle.knox_text.specs.Pieces.{skipped, token_length}
use Rattle.knox_text.proofs.Numbering.{bool_cases}
use Rattle.knox_text.proofs.LineLemmas.{slice-rest}

-- ---- the length of a token, byte after byte

token-more : (text : List ℕ) (k : ℕ) → k < length text → is_blank (get_or text k 0) ≡ false → token_length (drop k text) ≡ token_length (drop (suc k) text) + 1
token-more [] k h e = absurd (omega (arith, h))
token-more (b ∷ bytes) zero h e = rw e (omega arith)
token-more (b ∷ bytes) (suc k) h e = token-more bytes k (omega (arith, h)) e

pub token_more : (text : List ℕ) (k : ℕ) → k < length text → is_blank (get_or text k 0) ≡ false → token_length (drop k text) ≡ token_length (drop (k + 1) text) + 1
token_more text k h e = let one : suc k ≡ k + 1 = omega arith in subst (λ (z : ℕ). token_length (drop k text) ≡ token_length (drop z text) + 1) one (token-more text k h e)

pub token_ends : (text : List ℕ) (k : ℕ) → k < length text → is_blank (get_or text k 0) ≡ true → token_length (drop k text) ≡ 0
token_ends [] k h e = absurd (omega (arith, h))
token_ends (b ∷ bytes) zero h e = rw e refl
token_ends (b ∷ bytes) (suc k) h e = token_ends bytes k (omega (arith, h)) e

pub token_none : (text : List ℕ) (k : ℕ) → length text ≤ k → token_length (drop k text) ≡ 0
token_none [] k h = nothing_left k where
  nothing_left : (k : ℕ) → token_length (drop k []) ≡ 0
  nothing_left zero = refl
  nothing_left (suc k) = refl
token_none (b ∷ bytes) zero h = absurd (omega (arith, h))
token_none (b ∷ bytes) (suc k) h = token_none bytes k (omega (arith, h))

pub ruleset length_steps = (token_more, token_ends, token_none)

-- ---- the first token

token-step : (b : ℕ) (bytes : List ℕ) → is_blank b ≡ false → ((c : ℕ) (cs : List ℕ) → bytes ≡ c ∷ cs → is_blank c ≡ false → tokens bytes ≡ token (length bytes) (take (token_length bytes) bytes) ∷ tokens (drop (token_length bytes) bytes)) → tokens (b ∷ bytes) ≡ token (suc (length bytes)) (take (token_length (b ∷ bytes)) (b ∷ bytes)) ∷ tokens (drop (token_length (b ∷ bytes)) (b ∷ bytes))
token-step b [] n f = rw n refl
token-step b (c ∷ cs) n f =
    let others = tokens (c ∷ cs) in
    let left = suc (suc (length cs)) in
    subst (λ (t : Bool). (if t then others else if not (is_blank c) then longer b left others else token left (b ∷ []) ∷ others) ≡ token left (take (if t then 0 else suc (token_length (c ∷ cs))) (b ∷ c ∷ cs)) ∷ tokens (drop (if t then 0 else suc (token_length (c ∷ cs))) (b ∷ c ∷ cs))) (sym n)
    (elim (bool_cases (is_blank c)) [
      | inl y ↦ subst (λ (t : Bool). (if not t then longer b left others else token left (b ∷ []) ∷ others) ≡ token left (b ∷ take (if t then 0 else suc (token_length cs)) (c ∷ cs)) ∷ tokens (drop (if t then 0 else suc (token_length cs)) (c ∷ cs))) (sym y) refl
      | inr m ↦
          let rest : others ≡ token (suc (length cs)) (take (suc (token_length cs)) (c ∷ cs)) ∷ tokens (drop (suc (token_length cs)) (c ∷ cs)) =
          subst (λ (t : Bool). others ≡ token (suc (length cs)) (take (if t then 0 else suc (token_length cs)) (c ∷ cs)) ∷ tokens (drop (if t then 0 else suc (token_length cs)) (c ∷ cs))) m (f c cs refl m) in
          subst (λ (t : Bool). (if not t then longer b left others else token left (b ∷ []) ∷ others) ≡ token left (b ∷ take (if t then 0 else suc (token_length cs)) (c ∷ cs)) ∷ tokens (drop (if t then 0 else suc (token_length cs)) (c ∷ cs))) (sym m) (ap (longer b left) rest)
    ])

pub token-cut : (b : ℕ) (bytes : List ℕ) → is_blank b ≡ false → tokens (b ∷ bytes) ≡ token (suc (length bytes)) (take (token_length (b ∷ bytes)) (b ∷ bytes)) ∷ tokens (drop (token_length (b ∷ bytes)) (b ∷ bytes))
token-cut b [] n = token-step b [] n (λ c cs e m. cc)
token-cut b (c ∷ cs) n = token-step b (c ∷ cs) n (λ d ds e m. let is : c ≡ d = cc in token-cut c cs (ap is_blank is ∙ m))

pub tokens-skipped : (line : List ℕ) → tokens (skipped line) ≡ tokens line
tokens-skipped [] = refl
tokens-skipped (b ∷ bytes) = elim (bool_cases (is_blank b)) [
  | inl y ↦ ap (λ (t : Bool). tokens (if t then skipped bytes else b ∷ bytes)) y ∙ (tokens-skipped bytes ∙ sym (rw y refl))
  | inr n ↦ ap (λ (t : Bool). tokens (if t then skipped bytes else b ∷ bytes)) n
]

skipped-first : (line : List ℕ) (b : ℕ) (bytes : List ℕ) → skipped line ≡ b ∷ bytes → is_blank b ≡ false
skipped-first [] b bytes e = cc
skipped-first (c ∷ cs) b bytes e = elim (bool_cases (is_blank c)) [
  | inl y ↦ skipped-first cs b bytes (sym (ap (λ (t : Bool). if t then skipped cs else c ∷ cs) y) ∙ e)
  | inr n ↦ let same : c ∷ cs ≡ b ∷ bytes = sym (ap (λ (t : Bool). if t then skipped cs else c ∷ cs) n) ∙ e in let is : c ≡ b = cc in ap is_blank (sym is) ∙ n
]

skipped-shorter : (line : List ℕ) → length (skipped line) ≤ length line
skipped-shorter [] = omega arith
skipped-shorter (b ∷ bytes) = elim (bool_cases (is_blank b)) [
  | inl y ↦ let less = skipped-shorter bytes in rw y (omega (arith, less))
  | inr n ↦ rw n (omega arith)
]

pub cut_token_is : (line start : List ℕ) (end : ℕ) → start ≡ skipped line → 0 < length start → end ≡ token_length start → tokens line ≡ token (length start) (take end start) ∷ tokens (take (length start - end) (drop end start))
cut_token_is line [] end e h q = absurd (omega (arith, h))
cut_token_is line (b ∷ bytes) end e h q = rw (slice-rest (b ∷ bytes) end, q) (sym (tokens-skipped line) ∙ (ap tokens (sym e) ∙ token-cut b bytes (skipped-first line b bytes (sym e))))

behind-shorter : (b : ℕ) (bytes : List ℕ) → is_blank b ≡ false → length (drop (token_length (b ∷ bytes)) (b ∷ bytes)) < length (b ∷ bytes)
behind-shorter b bytes n = rw n (let d = drop-shorter (token_length bytes) bytes in omega (arith, d)) where
  drop-shorter : (k : ℕ) (xs : List ℕ) → length (drop k xs) ≤ length xs
  drop-shorter zero xs = omega arith
  drop-shorter (suc k) [] = omega arith
  drop-shorter (suc k) (x ∷ xs) = let d = drop-shorter k xs in omega (arith, d)

pub cut_token_less : (line start : List ℕ) (end : ℕ) → start ≡ skipped line → 0 < length start → end ≡ token_length start → length (take (length start - end) (drop end start)) < length line
cut_token_less line [] end e h q = absurd (omega (arith, h))
cut_token_less line (b ∷ bytes) end e h q =
    let less : length (drop (token_length (b ∷ bytes)) (b ∷ bytes)) < length (b ∷ bytes) = behind-shorter b bytes (skipped-first line b bytes (sym e)) in
    let all : length (b ∷ bytes) ≤ length line = subst (λ (x : List ℕ). length x ≤ length line) (sym e) (skipped-shorter line) in
    rw (slice-rest (b ∷ bytes) end, q) (omega (arith, less, all))

pub cut_token_none : (line start : List ℕ) → start ≡ skipped line → length start ≡ 0 → tokens line ≡ []
cut_token_none line [] e h = sym (tokens-skipped line) ∙ ap tokens (sym e)
cut_token_none line (b ∷ bytes) e h = absurd (omega (arith, h))

pub ruleset cut_steps = (cut_token_is, cut_token_less, cut_token_none)

-- ---- the bytes of tokens alone

pub bare-more : (line rest bytes : List ℕ) (left : ℕ) → tokens line ≡ token left bytes ∷ tokens rest → bare_tokens line ≡ bytes ∷ bare_tokens rest
bare-more line rest bytes left e = ap (map (λ (t : Token). t.bytes)) e

pub bare-none : (line : List ℕ) → tokens line ≡ [] → bare_tokens line ≡ []
bare-none line e = ap (map (λ (t : Token). t.bytes)) e
