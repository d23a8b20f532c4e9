-- Lines are cut off at the front.
use Rattle.std.proofs.Common.{◌≡◌, ℕ, zero, suc, ◌+◌, ◌-◌, ◌<◌, ◌≤◌, ◌==◌, ◌&&◌, Bool, true, false, List, [], ◌∷◌, length, take, drop, refl, sym, ◌∙◌, ap, subst, arith, inl, inr, if◌then◌else◌}
use Rattle.std.proofs.lemmas.Grind.{common_steps}
use Rattle.knox_text.specs.Lines.{begins_with, begun, lines}
use Rattle.knox_text.specs.Pieces.{ends_line, line_length, behind_feed, behind_end}
use Rattle.knox_text.proofs.Numbering.{bool_cases}

and-second : (a b : Bool) → a && b ≡ true → b ≡ true
and-second true b h = h
and-second false b h = cc

feed-behind : (bytes : List ℕ) → begins_with 10 bytes ≡ true → lines bytes ≡ [] ∷ lines (behind_feed bytes)
feed-behind [] h = cc
feed-behind (b ∷ bytes) h = rw h refl

line-step : (b : ℕ) (bytes : List ℕ) → begun b (lines bytes) ≡ (b ∷ take (line_length bytes) bytes) ∷ lines (behind_end (drop (line_length bytes) bytes)) → lines (b ∷ bytes) ≡ take (line_length (b ∷ bytes)) (b ∷ bytes) ∷ lines (behind_end (drop (line_length (b ∷ bytes)) (b ∷ bytes)))
line-step b bytes fact = elim (bool_cases (b == 10)) [
  | inl y ↦ rw y (ap (λ (t : Bool). [] ∷ lines (if t then bytes else behind_feed bytes)) (sym y))
  | inr n ↦ elim (bool_cases (b == 13 && begins_with 10 bytes)) [
    | inl q ↦ rw (n, q) (rw n (feed-behind bytes (and-second _ _ q)))
    | inr q ↦ rw (n, q) fact
  ]
]

-- the first line is cut off
pub line-cut : (b : ℕ) (bytes : List ℕ) → lines (b ∷ bytes) ≡ take (line_length (b ∷ bytes)) (b ∷ bytes) ∷ lines (behind_end (drop (line_length (b ∷ bytes)) (b ∷ bytes)))
line-cut b [] = line-step b [] refl
line-cut b (c ∷ cs) = line-step b (c ∷ cs) (ap (begun b) (line-cut c cs))

pub not-empty : (b : Bool) (text : List ℕ) → b ≡ (length text == 0) → b ≡ false → 0 < length text
not-empty b [] e f = cc
not-empty b (x ∷ text) e f = omega arith

-- what is behind a place, as a slice
pub slice-rest : (text : List ℕ) (k : ℕ) → take (length text - k) (drop k text) ≡ drop k text
slice-rest text k = grind (arith, common_steps)

pub cut_line_is : (text rest : List ℕ) (end : ℕ) → 0 < length text → end ≡ line_length text → rest ≡ behind_end (take (length text - end) (drop end text)) → lines text ≡ take end text ∷ lines rest
cut_line_is [] rest end h e q = absurd (omega (arith, h))
cut_line_is (b ∷ bytes) rest end h e q = rw (q ∙ ap behind_end (slice-rest (b ∷ bytes) end), e) (line-cut b bytes)

feed-shorter : (bytes : List ℕ) → length (behind_feed bytes) ≤ length bytes
feed-shorter [] = omega arith
feed-shorter (b ∷ bytes) = elim (bool_cases (b == 10)) [
  | inl y ↦ rw y (omega arith)
  | inr n ↦ rw n (omega arith)
]

end-shorter : (b : ℕ) (bytes : List ℕ) → length (behind_end (b ∷ bytes)) ≤ length bytes
end-shorter b bytes = elim (bool_cases (b == 10)) [
  | inl y ↦ rw y (omega arith)
  | inr n ↦ rw n (feed-shorter bytes)
]

pub cut_line_shorter : (text : List ℕ) → 0 < length text → length (behind_end (drop (line_length text) text)) < length text
cut_line_shorter [] h = absurd (omega (arith, h))
cut_line_shorter (b ∷ bytes) h = elim (bool_cases (ends_line (b ∷ bytes))) [
  | inl y ↦ let less : length (behind_end (b ∷ bytes)) ≤ length bytes = end-shorter b bytes in rw y (omega (arith, less))
  | inr n ↦ rw n (further bytes (λ g. cut_line_shorter bytes g))
] where
  further : (bytes : List ℕ) → (0 < length bytes → length (behind_end (drop (line_length bytes) bytes)) < length bytes) → length (behind_end (drop (line_length bytes) bytes)) < suc (length bytes)
  further [] f = omega arith
  further (c ∷ cs) f = let less = f (omega arith) in omega (arith, less)

pub cut_line_less : (text rest : List ℕ) (end : ℕ) → 0 < length text → end ≡ line_length text → rest ≡ behind_end (take (length text - end) (drop end text)) → length rest < length text
cut_line_less text rest end h e q = rw (q ∙ ap behind_end (slice-rest text end), e) (cut_line_shorter text h)

-- the length of a line, byte after byte

line-more : (text : List ℕ) (k : ℕ) → k < length text → ends_line (drop k text) ≡ false → line_length (drop k text) ≡ line_length (drop (suc k) text) + 1
line-more [] k h e = absurd (omega (arith, h))
line-more (b ∷ bytes) zero h e = rw e (omega arith)
line-more (b ∷ bytes) (suc k) h e = line-more bytes k (omega (arith, h)) e

pub line_more : (text : List ℕ) (k : ℕ) → k < length text → ends_line (drop k text) ≡ false → line_length (drop k text) ≡ line_length (drop (k + 1) text) + 1
line_more text k h e = let one : suc k ≡ k + 1 = omega arith in subst (λ (z : ℕ). line_length (drop k text) ≡ line_length (drop z text) + 1) one (line-more text k h e)

pub line_ends : (text : List ℕ) → ends_line text ≡ true → line_length text ≡ 0
line_ends [] h = refl
line_ends (b ∷ bytes) h = rw h refl

pub line_none : (text : List ℕ) (k : ℕ) → length text ≤ k → line_length (drop k text) ≡ 0
line_none [] k h = drop_nothing k where
  drop_nothing : (k : ℕ) → line_length (drop k []) ≡ 0
  drop_nothing zero = refl
  drop_nothing (suc k) = refl
line_none (b ∷ bytes) zero h = absurd (omega (arith, h))
line_none (b ∷ bytes) (suc k) h = line_none bytes k (omega (arith, h))

pub ruleset length_steps = (line_more, line_ends, line_none)

pub ruleset cut_steps = (cut_line_is, cut_line_less)

-- ---- the first line

head_length : List (List ℕ) → ℕ
head_length [] = 0
head_length (l ∷ ls) = length l

begun-head : (b : ℕ) (ls : List (List ℕ)) → head_length (begun b ls) ≡ suc (head_length ls)
unfolding head_length
begun-head b [] = refl
begun-head b (l ∷ ls) = refl

head-short : (bytes : List ℕ) → head_length (lines bytes) ≤ length bytes
unfolding head_length
head-short [] = omega arith
head-short (b ∷ bytes) = elim (bool_cases (b == 10)) [
  | inl y ↦ rw y (omega arith)
  | inr n ↦ elim (bool_cases (b == 13 && begins_with 10 bytes)) [
    | inl q ↦ rw (n, q) (let h = head-short bytes in omega (arith, h))
    | inr q ↦ rw (n, q) (let h = head-short bytes in let e = begun-head b (lines bytes) in omega (arith, h, e))
  ]
]

-- a line is no longer than the text that it begins
pub first_line_short : (text line : List ℕ) (others : List (List ℕ)) → lines text ≡ line ∷ others → length line ≤ length text
unfolding head_length
first_line_short text line others e = subst (λ (x : List (List ℕ)). head_length x ≤ length text) e (head-short text)
