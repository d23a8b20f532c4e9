-- Words fit a part exactly where they have its widths and agree with what is known; and what is known of the persistent words.
use Rattle.std.proofs.Common.{◌≡◌, ℕ, suc, List, [], ◌∷◌, length, Bool, true, false, Option, Some, None, slice_get, refl, ap, sym, ◌∙◌, subst, arith}
use Rattle.std.proofs.lemmas.Bool.{and_parts, and_from}
use Rattle.knox_words.specs.Bits.{Bits, is_word}
use Rattle.knox_words.specs.Lists.{Words, fit, fits, are_widths, zeros, same_word, pick, merge}
use Rattle.knox_words.proofs.Lists.{is_word-IsWord, fits-from, fit-zeros, same_word-refl, same_word-true, length-fit}
use Rattle.knox_words.proofs.PickLemmas.{length-pick, fit-pick, SameBeside, merge-pick}
use Rattle.knox_theory.specs.Design.{Fits}
use Rattle.knox_circuit.specs.Rom.{is_known, agree, free_mask}
use Rattle.device_design.specs.Roms.{known_words, known_fit, rom_part}

-- what is known has its widths where each known word has that of its place
known-fit : (known : List (Option Bits)) (ws : List ℕ) → length known ≡ length ws → ((j : ℕ) (w : Bits) → slice_get known j ≡ Some (Some w) → (slice_get ws j ≡ Some w.width) × (is_word w ≡ true)) → known_fit known ws ≡ true
known-fit [] [] e each = refl
known-fit [] (w ∷ ws) e each = cc
known-fit (o ∷ os) [] e each = cc
known-fit (None ∷ os) (w ∷ ws) e each = known-fit os ws (cc e) (λ j x at. each (suc j) x at)
known-fit (Some v ∷ os) (w ∷ ws) e each =
    let here = each 0 v refl in
    and_from (fits w v) (known_fit os ws) (fits-from w v (cc here.0) (is_word-IsWord v here.1)) (known-fit os ws (cc e) (λ j x at. each (suc j) x at))

-- there is a known word or none for each place, since some words have the widths
pub roms-fit : (known : List (Option Bits)) (ws : List ℕ) (n : ℕ) → are_widths ws ≡ true → length known ≡ n → ((words : Words) → fit ws words ≡ true → length words ≡ n) →
    ((j : ℕ) (w : Bits) → slice_get known j ≡ Some (Some w) → (slice_get ws j ≡ Some w.width) × (is_word w ≡ true)) → known_fit known ws ≡ true
roms-fit known ws n widths count counted each =
    let zero_fit = fit-zeros ws widths in
    known-fit known ws (count ∙ (sym (counted (zeros ws) zero_fit) ∙ length-fit ws (zeros ws) zero_fit)) each

known-length : (known : List (Option Bits)) (ws : List ℕ) → known_fit known ws ≡ true → length known ≡ length ws
known-length [] [] h = refl
known-length [] (w ∷ ws) h = cc
known-length (o ∷ os) [] h = cc
known-length (None ∷ os) (w ∷ ws) h = ap suc (known-length os ws h)
known-length (Some v ∷ os) (w ∷ ws) h = ap suc (known-length os ws (and_parts (fits w v) (known_fit os ws) h).1)

-- WHAT IS TAKEN AND WHAT IS KNOWN

pub filled-fit : (known : List (Option Bits)) (ws : List ℕ) (taken : Words) → known_fit known ws ≡ true → fit (pick (free_mask known) ws) taken ≡ true → fit ws (merge (free_mask known) (known_words known) taken) ≡ true
filled-fit [] [] taken k h = refl
filled-fit [] (w ∷ ws) taken k h = cc
filled-fit (o ∷ os) [] taken k h = cc
filled-fit (None ∷ os) (w ∷ ws) [] k h = cc
filled-fit (None ∷ os) (w ∷ ws) (x ∷ xs) k h =
    let both = and_parts (fits w x) (fit (pick (free_mask os) ws) xs) h in
    and_from (fits w x) (fit ws (merge (free_mask os) (known_words os) xs)) both.0 (filled-fit os ws xs k both.1)
filled-fit (Some v ∷ os) (w ∷ ws) taken k h =
    let both = and_parts (fits w v) (known_fit os ws) k in
    and_from (fits w v) (fit ws (merge (free_mask os) (known_words os) taken)) both.0 (filled-fit os ws taken both.1 h)

pub filled-agree : (known : List (Option Bits)) (taken : Words) → agree known (merge (free_mask known) (known_words known) taken) ≡ true
filled-agree [] taken = refl
filled-agree (None ∷ os) [] = filled-agree os []
filled-agree (None ∷ os) (x ∷ xs) = filled-agree os xs
filled-agree (Some v ∷ os) taken = and_from (same_word v v) (agree os (merge (free_mask os) (known_words os) taken)) (same_word-refl v) (filled-agree os taken)

beside : (known : List (Option Bits)) (words : Words) → length known ≡ length words → agree known words ≡ true → SameBeside (free_mask known) (known_words known) words
beside [] [] e k = refl
beside [] (x ∷ xs) e k = absurd (omega arith)
beside (o ∷ os) [] e k = cc
beside (None ∷ os) (x ∷ xs) e k = beside os xs (omega arith) k
beside (Some v ∷ os) (x ∷ xs) e k =
    let both = and_parts (same_word v x) (agree os xs) k in
    (same_word-true v x both.0, beside os xs (omega arith) both.1)

-- words that agree with what is known are made of those that are taken
filled-back : (known : List (Option Bits)) (words : Words) → length known ≡ length words → agree known words ≡ true → merge (free_mask known) (known_words known) (pick (free_mask known) words) ≡ words
filled-back known words e k = merge-pick (free_mask known) (known_words known) words (beside known words e k)

-- words fit a part exactly where they have its widths and agree with what is known
pub part-fits : (known : List (Option Bits)) (ws : List ℕ) (words : Words) → known_fit known ws ≡ true → fit ws words ≡ true → agree known words ≡ true → Fits (rom_part known ws) words
part-fits known ws words w h k = record { taken = fit-pick (free_mask known) ws words h; whole = filled-back known words (known-length known ws w ∙ sym (length-fit ws words h)) k }

pub fits-widths : (known : List (Option Bits)) (ws : List ℕ) (words : Words) → known_fit known ws ≡ true → Fits (rom_part known ws) words → fit ws words ≡ true
fits-widths known ws words k f = subst (λ (xs : Words). fit ws xs ≡ true) f.whole (filled-fit known ws (pick (free_mask known) words) k f.taken)

pub fits-agree : (known : List (Option Bits)) (ws : List ℕ) (words : Words) → Fits (rom_part known ws) words → agree known words ≡ true
fits-agree known ws words f = subst (λ (xs : Words). agree known xs ≡ true) f.whole (filled-agree known (pick (free_mask known) words))

-- WHAT IS KNOWN OF THE WORDS THAT A MASK MARKS

-- it has their widths
pub known-pick : (mask : List Bool) (known : List (Option Bits)) (ws : List ℕ) → known_fit known ws ≡ true → known_fit (pick mask known) (pick mask ws) ≡ true
known-pick [] known ws h = refl
known-pick (m ∷ mask) [] [] h = refl
known-pick (m ∷ mask) [] (w ∷ ws) h = cc
known-pick (m ∷ mask) (o ∷ os) [] h = cc
known-pick (true ∷ mask) (None ∷ os) (w ∷ ws) h = known-pick mask os ws h
known-pick (true ∷ mask) (Some v ∷ os) (w ∷ ws) h =
    let both = and_parts (fits w v) (known_fit os ws) h in
    and_from (fits w v) (known_fit (pick mask os) (pick mask ws)) both.0 (known-pick mask os ws both.1)
known-pick (false ∷ mask) (None ∷ os) (w ∷ ws) h = known-pick mask os ws h
known-pick (false ∷ mask) (Some v ∷ os) (w ∷ ws) h = known-pick mask os ws (and_parts (fits w v) (known_fit os ws) h).1

-- words that agree with what is known do so there
pub agree-pick : (mask : List Bool) (known : List (Option Bits)) (words : Words) → agree known words ≡ true → agree (pick mask known) (pick mask words) ≡ true
agree-pick [] known words h = refl
agree-pick (m ∷ mask) [] words h = refl
agree-pick (m ∷ mask) (o ∷ os) [] h = cc
agree-pick (true ∷ mask) (o ∷ os) (x ∷ xs) h =
    let both = and_parts (is_known o x) (agree os xs) h in
    and_from (is_known o x) (agree (pick mask os) (pick mask xs)) both.0 (agree-pick mask os xs both.1)
agree-pick (false ∷ mask) (o ∷ os) (x ∷ xs) h = agree-pick mask os xs (and_parts (is_known o x) (agree os xs) h).1

-- WORDS THAT ARE MADE TO AGREE

-- words with the known ones in their places
abbrev pub over : List (Option Bits) → Words → Words
over known words = merge (free_mask known) (known_words known) (pick (free_mask known) words)

pub over-fit : (known : List (Option Bits)) (ws : List ℕ) (words : Words) → known_fit known ws ≡ true → fit ws words ≡ true → fit ws (over known words) ≡ true
over-fit known ws words k h = filled-fit known ws (pick (free_mask known) words) k (fit-pick (free_mask known) ws words h)

pick-over : (mask : List Bool) (known : List (Option Bits)) (words : Words) → length known ≡ length words → pick mask (over known words) ≡ over (pick mask known) (pick mask words)
pick-over [] known words e = refl
pick-over (m ∷ mask) [] [] e = refl
pick-over (m ∷ mask) [] (x ∷ xs) e = absurd (omega arith)
pick-over (m ∷ mask) (o ∷ os) [] e = absurd (omega arith)
pick-over (true ∷ mask) (None ∷ os) (x ∷ xs) e = ap (λ ws. x ∷ ws) (pick-over mask os xs (omega arith))
pick-over (true ∷ mask) (Some v ∷ os) (x ∷ xs) e = ap (λ ws. v ∷ ws) (pick-over mask os xs (omega arith))
pick-over (false ∷ mask) (None ∷ os) (x ∷ xs) e = pick-over mask os xs (omega arith)
pick-over (false ∷ mask) (Some v ∷ os) (x ∷ xs) e = pick-over mask os xs (omega arith)

-- marked words that agree stay as they are where the words round them are made to agree
pub kept-stay : (mask : List Bool) (known : List (Option Bits)) (words kept : Words) → length known ≡ length words → pick mask words ≡ kept → agree (pick mask known) kept ≡ true → pick mask (over known words) ≡ kept
kept-stay mask known words kept e is k =
    let same : length (pick mask known) ≡ length kept = length-pick mask known words e ∙ ap (λ ws. length ws) is in
    pick-over mask known words e ∙ (ap (λ ws. over (pick mask known) ws) is ∙ filled-back (pick mask known) kept same k)
