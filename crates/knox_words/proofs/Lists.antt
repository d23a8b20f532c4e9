-- Lists of words: equality by test, words that fit widths, and zero words.
use Rattle.std.proofs.Common.{◌≡◌, ℕ, zero, suc, ◌^◌, ◌<◌, ◌≤◌, ◌==◌, ◌&&◌, List, [], ◌∷◌, ◌++◌, length, take, drop, true, refl, sym, ap, ◌∙◌, subst, arith, eqb-true, lt-ltb, nat_le, nat_lt, slice_index, slice_set}
use Rattle.std.specs.Cmp.{IsEquivalence}
use Rattle.std.proofs.lemmas.Bool.{and_parts, and_from, ltb-true, leb-true, le-leb}
use Rattle.std.proofs.lemmas.Cmp.{nat_eq_equiv, lists_equiv, on_equiv, and_equiv}
use Rattle.std.proofs.lemmas.Nat.{pow_pos}
use Rattle.knox_words.specs.Bits.{Bits, IsWord, bits, is_word, word_or, word_at}
use Rattle.knox_words.specs.Lists.{Words, same_word, same_words, fits, fit, are_widths, zeros, zeros_or}

-- equality by test

pub same_word-equivalence : IsEquivalence same_word
same_word-equivalence = and_equiv (on_equiv (λ (a : Bits). a.width) nat_eq_equiv) (on_equiv (λ (a : Bits). a.value) nat_eq_equiv)

pub same_words-equivalence : IsEquivalence same_words
same_words-equivalence = lists_equiv same_word-equivalence

pub same_word-refl : (a : Bits) → same_word a a ≡ true
same_word-refl a = same_word-equivalence.refl a

pub same_words-refl : (as' : Words) → same_words as' as' ≡ true
same_words-refl as' = same_words-equivalence.refl as'

pub same_word-true : (a b : Bits) → same_word a b ≡ true → a ≡ b
same_word-true a b h =
    let both = and_parts (a.width == b.width) (a.value == b.value) h in
    let width : a.width ≡ b.width = eqb-true a.width b.width both.0 in
    let value : a.value ≡ b.value = eqb-true a.value b.value both.1 in
    λ i. record { width = width i; value = value i }

pub same_words-true : (as' bs : Words) → same_words as' bs ≡ true → as' ≡ bs
same_words-true [] [] h = refl
same_words-true [] (b ∷ bs) h = cc
same_words-true (a ∷ as') [] h = cc
same_words-true (a ∷ as') (b ∷ bs) h =
    let both = and_parts (same_word a b) (same_words as' bs) h in
    let first : a ≡ b = same_word-true a b both.0 in
    let rest : as' ≡ bs = same_words-true as' bs both.1 in
    cc

pub same_words-from : (as' bs : Words) → as' ≡ bs → same_words as' bs ≡ true
same_words-from as' bs e = subst (λ (l : Words). same_words as' l ≡ true) e (same_words-refl as')

-- a word and its test

pub is_word-IsWord : (a : Bits) → is_word a ≡ true → IsWord a
is_word-IsWord a h =
    let range = and_parts (nat_le 1 a.width && nat_le a.width 128) (nat_lt a.value (2 ^ a.width)) h in
    let width = and_parts (nat_le 1 a.width) (nat_le a.width 128) range.0 in
    record { wide = leb-true 1 a.width width.0; narrow = leb-true a.width 128 width.1; fits = ltb-true a.value (2 ^ a.width) range.1 }

pub IsWord-is_word : (a : Bits) → IsWord a → is_word a ≡ true
IsWord-is_word a h = rw (le-leb 1 a.width h.wide, le-leb a.width 128 h.narrow, lt-ltb a.value (2 ^ a.width) h.fits) refl

-- a word that fits a width

pub fits-width : (w : ℕ) (a : Bits) → fits w a ≡ true → a.width ≡ w
fits-width w a h = eqb-true a.width w (and_parts (a.width == w) (is_word a) h).0

pub fits-IsWord : (w : ℕ) (a : Bits) → fits w a ≡ true → IsWord a
fits-IsWord w a h = is_word-IsWord a (and_parts (a.width == w) (is_word a) h).1

pub fits-below : (w : ℕ) (a : Bits) → fits w a ≡ true → a.value < 2 ^ w
fits-below w a h = subst (λ (k : ℕ). a.value < 2 ^ k) (fits-width w a h) (fits-IsWord w a h).fits

pub fits-from : (w : ℕ) (a : Bits) → a.width ≡ w → IsWord a → fits w a ≡ true
fits-from w a e h = and_from (a.width == w) (is_word a) (subst (λ (k : ℕ). (a.width == k) ≡ true) e (nat_eq_equiv.refl a.width)) (IsWord-is_word a h)

pub fits-bits : (w n : ℕ) → 1 ≤ w → w ≤ 128 → n < 2 ^ w → fits w (bits w n) ≡ true
fits-bits w n wide narrow below = fits-from w (bits w n) refl (record { wide = wide; narrow = narrow; fits = below })

-- a word that fits is that of the width and its number
pub bits-value : (w : ℕ) (a : Bits) → fits w a ≡ true → bits w a.value ≡ a
bits-value w a h = ap (λ (k : ℕ). bits k a.value) (sym (fits-width w a h))

-- words that fit widths

pub length-fit : (ws : List ℕ) (as' : Words) → fit ws as' ≡ true → length as' ≡ length ws
length-fit [] [] h = refl
length-fit [] (a ∷ as') h = cc
length-fit (w ∷ ws) [] h = cc
length-fit (w ∷ ws) (a ∷ as') h = ap suc (length-fit ws as' (and_parts (fits w a) (fit ws as') h).1)

pub fit-append : (ws vs : List ℕ) (as' bs : Words) → fit ws as' ≡ true → fit (ws ++ vs) (as' ++ bs) ≡ fit vs bs
fit-append [] vs [] bs h = refl
fit-append [] vs (a ∷ as') bs h = cc
fit-append (w ∷ ws) vs [] bs h = cc
fit-append (w ∷ ws) vs (a ∷ as') bs h =
    let both = and_parts (fits w a) (fit ws as') h in
    rw both.0 (fit-append ws vs as' bs both.1)

pub fit-both : (ws vs : List ℕ) (as' bs : Words) → fit ws as' ≡ true → fit vs bs ≡ true → fit (ws ++ vs) (as' ++ bs) ≡ true
fit-both ws vs as' bs h k = fit-append ws vs as' bs h ∙ k

-- words that fit widths in two parts fit them part by part
pub fit-take : (ws vs : List ℕ) (as' : Words) → fit (ws ++ vs) as' ≡ true → fit ws (take (length ws) as') ≡ true
fit-take [] vs as' h = refl
fit-take (w ∷ ws) vs [] h = cc
fit-take (w ∷ ws) vs (a ∷ as') h =
    let both = and_parts (fits w a) (fit (ws ++ vs) as') h in
    and_from (fits w a) (fit ws (take (length ws) as')) both.0 (fit-take ws vs as' both.1)

pub fit-drop : (ws vs : List ℕ) (as' : Words) → fit (ws ++ vs) as' ≡ true → fit vs (drop (length ws) as') ≡ true
fit-drop [] vs as' h = h
fit-drop (w ∷ ws) vs [] h = cc
fit-drop (w ∷ ws) vs (a ∷ as') h = fit-drop ws vs as' (and_parts (fits w a) (fit (ws ++ vs) as') h).1

pub fits-word_at : (ws : List ℕ) (as' : Words) (k : ℕ) → k < length ws → fit ws as' ≡ true → fits (slice_index ws k) (word_at as' k) ≡ true
fits-word_at [] as' k l h = absurd (omega arith)
fits-word_at (w ∷ ws) [] k l h = cc
fits-word_at (w ∷ ws) (a ∷ as') zero l h = (and_parts (fits w a) (fit ws as') h).0
fits-word_at (w ∷ ws) (a ∷ as') (suc k) l h = fits-word_at ws as' k (omega arith) (and_parts (fits w a) (fit ws as') h).1

-- a word is replaced by one of its width
pub fit-slice_set : (ws : List ℕ) (as' : Words) (k : ℕ) (a : Bits) → fits (slice_index ws k) a ≡ true → fit ws as' ≡ true → fit ws (slice_set as' k a) ≡ true
fit-slice_set [] [] k a p h = refl
fit-slice_set [] (b ∷ as') k a p h = cc
fit-slice_set (w ∷ ws) [] k a p h = cc
fit-slice_set (w ∷ ws) (b ∷ as') zero a p h = and_from (fits w a) (fit ws as') p (and_parts (fits w b) (fit ws as') h).1
fit-slice_set (w ∷ ws) (b ∷ as') (suc k) a p h =
    let both = and_parts (fits w b) (fit ws as') h in
    and_from (fits w b) (fit ws (slice_set as' k a)) both.0 (fit-slice_set ws as' k a p both.1)

pub are_widths-fit : (ws : List ℕ) (as' : Words) → fit ws as' ≡ true → are_widths ws ≡ true
are_widths-fit [] as' h = refl
are_widths-fit (w ∷ ws) [] h = cc
are_widths-fit (w ∷ ws) (a ∷ as') h =
    let both = and_parts (fits w a) (fit ws as') h in
    let word : IsWord a = fits-IsWord w a both.0 in
    let same : a.width ≡ w = fits-width w a both.0 in
    let wide : nat_le 1 w ≡ true = le-leb 1 w (subst (λ (k : ℕ). 1 ≤ k) same word.wide) in
    let narrow : nat_le w 128 ≡ true = le-leb w 128 (subst (λ (k : ℕ). k ≤ 128) same word.narrow) in
    and_from (nat_le 1 w && nat_le w 128) (are_widths ws) (and_from (nat_le 1 w) (nat_le w 128) wide narrow) (are_widths-fit ws as' both.1)

-- the first of some widths is one
pub are_widths-first : (w : ℕ) (ws : List ℕ) → are_widths (w ∷ ws) ≡ true → (1 ≤ w) × (w ≤ 128)
are_widths-first w ws h =
    let range = and_parts (nat_le 1 w) (nat_le w 128) (and_parts (nat_le 1 w && nat_le w 128) (are_widths ws) h).0 in
    (leb-true 1 w range.0, leb-true w 128 range.1)

pub are_widths-rest : (w : ℕ) (ws : List ℕ) → are_widths (w ∷ ws) ≡ true → are_widths ws ≡ true
are_widths-rest w ws h = (and_parts (nat_le 1 w && nat_le w 128) (are_widths ws) h).1

-- zero words

pub word_or-zero : (w : ℕ) → 1 ≤ w → w ≤ 128 → word_or w 0 ≡ bits w 0
word_or-zero w wide narrow =
    let is : is_word (bits w 0) ≡ true = IsWord-is_word (bits w 0) (record { wide = wide; narrow = narrow; fits = pow_pos w }) in
    rw is refl

pub zeros_or-zeros : (ws : List ℕ) → are_widths ws ≡ true → zeros_or ws ≡ zeros ws
zeros_or-zeros [] h = refl
zeros_or-zeros (w ∷ ws) h =
    let range = are_widths-first w ws h in
    let first : word_or w 0 ≡ bits w 0 = word_or-zero w range.0 range.1 in
    let rest : zeros_or ws ≡ zeros ws = zeros_or-zeros ws (are_widths-rest w ws h) in
    cc

pub fit-zeros : (ws : List ℕ) → are_widths ws ≡ true → fit ws (zeros ws) ≡ true
fit-zeros [] h = refl
fit-zeros (w ∷ ws) h =
    let range = are_widths-first w ws h in
    and_from (fits w (bits w 0)) (fit ws (zeros ws)) (fits-bits w 0 range.0 range.1 (pow_pos w)) (fit-zeros ws (are_widths-rest w ws h))

pub ruleset zero_words = (zeros_or-zeros)
