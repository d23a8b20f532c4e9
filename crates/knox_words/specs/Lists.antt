-- Lists of words: whether they have given widths, the lists of given widths by number, and what stands at the places that
-- a mask marks.
-- The project's own.
use Rattle.std.specs.Prelude.{ℕ, ◌+◌, ◌*◌, ◌/◌, ◌%◌, ◌^◌, ◌==◌, ◌&&◌, nat_le, List, [], ◌∷◌, Bool, true, false, map}
use Rattle.std.specs.List.{list_all}
use Rattle.std.specs.Cmp.Lexicographic.{pointwise}
use Rattle.knox_words.specs.Bits.{Bits, bits, is_word, word_or}

-- a list of words
abbrev pub Words : Type 0
Words = List Bits

-- whether two words are equal
abbrev pub same_word : Bits → Bits → Bool
same_word a b = a.width == b.width && a.value == b.value

-- whether two lists of words are equal
abbrev pub same_words : Words → Words → Bool
same_words as' bs = pointwise same_word as' bs

-- whether a is a word of width w
abbrev pub fits : ℕ → Bits → Bool
fits w a = a.width == w && is_word a

-- whether some words have these widths, one for one
abbrev pub fit : List ℕ → Words → Bool
fit [] [] = true
fit [] (a ∷ as') = false
fit (w ∷ ws) [] = false
fit (w ∷ ws) (a ∷ as') = fits w a && fit ws as'

-- whether some numbers are widths
abbrev pub are_widths : List ℕ → Bool
are_widths ws = list_all (λ w. nat_le 1 w && nat_le w 128) ws

-- the zero words of these widths
abbrev pub zeros : List ℕ → Words
zeros ws = map (λ w. bits w 0) ws

-- the same, where the zero word of width 1 stands for a number that is no width
abbrev pub zeros_or : List ℕ → Words
zeros_or ws = map (λ w. word_or w 0) ws

-- the sum of some widths
abbrev pub total : List ℕ → ℕ
total [] = 0
total (w ∷ ws) = w + total ws

-- the words of these widths with a number below 2 to the sum of the widths, the first word the most significant
abbrev pub decoded : List ℕ → ℕ → Words
decoded [] n = []
decoded (w ∷ ws) n = bits w (n / 2 ^ total ws) ∷ decoded ws (n % 2 ^ total ws)

-- the number of some words of these widths
abbrev pub number : List ℕ → Words → ℕ
number [] as' = 0
number (w ∷ ws) [] = 0
number (w ∷ ws) (a ∷ as') = a.value * 2 ^ total ws + number ws as'

-- the entries at the places that a mask marks
abbrev pub pick : {A : Type 0} → List Bool → List A → List A
pick [] xs = []
pick (m ∷ mask) [] = []
pick (true ∷ mask) (x ∷ xs) = x ∷ pick mask xs
pick (false ∷ mask) (x ∷ xs) = pick mask xs

-- a list with others, in order, at the places that a mask marks; where none of them is left, its own stay
abbrev pub merge : {A : Type 0} → List Bool → List A → List A → List A
merge [] base others = base
merge (m ∷ mask) [] others = []
merge (true ∷ mask) (x ∷ base) [] = x ∷ merge mask base []
merge (true ∷ mask) (x ∷ base) (y ∷ others) = y ∷ merge mask base others
merge (false ∷ mask) (x ∷ base) others = x ∷ merge mask base others
