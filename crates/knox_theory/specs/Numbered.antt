-- Trying all choices, by number: the choices with number n of b bits, for runs whose paths take different words.
-- The project's own, and a way to show that a script is closed. Nobody has to believe it: what it shows is proved.
use Rattle.std.specs.Prelude.{◌≡◌, ℕ, zero, suc, ◌-◌, ◌/◌, ◌%◌, ◌^◌, ◌<◌, ◌≤◌, ◌&&◌, List, [], ◌∷◌, Bool, true, false}
use Rattle.knox_words.specs.Bits.{Bits, bits}
use Rattle.knox_words.specs.Lists.{Words, fits}
use Rattle.knox_theory.specs.Course.{Course, Check, Assume, Take, Mark, Tell, Done, End, Failed, run}
use Rattle.knox_theory.specs.Segments.{Segment}

-- no path of this course takes words of more than b bits together
abbrev pub Within : Course → ℕ → Type 0
Within (Check ok h rest) b = Within rest b
Within (Assume ok rest) b = Within rest b
Within (Take w rest) b = (w ≤ b) × ((c : Bits) → fits w c ≡ true → Within (rest c) (b - w))
Within (Mark l s rest) b = Within rest b
Within (Tell n rest) b = Within rest b
Within Done b = Unit {0}

-- The choices with number n of b bits: each word is cut from the front of the bits that are left, where the run asks for it.
abbrev pub choices_at : Course → ℕ → ℕ → Words
choices_at (Check ok h rest) b n = choices_at rest b n
choices_at (Assume ok rest) b n = choices_at rest b n
choices_at (Take w rest) b n = bits w (n / 2 ^ (b - w)) ∷ choices_at (rest (bits w (n / 2 ^ (b - w)))) (b - w) (n % 2 ^ (b - w))
choices_at (Mark l s rest) b n = choices_at rest b n
choices_at (Tell k rest) b n = choices_at rest b n
choices_at Done b n = []

-- choices that falsify a hint are there only if those with some number falsify it
pub record Covered (t : Course) (b h : ℕ) : Type 0 where
  pub number : ℕ
  pub below : number < 2 ^ b
  pub falsifies : run t (choices_at t b number) ≡ Failed h

-- a test at every number below n
abbrev pub all_below : ℕ → (ℕ → Bool) → Bool
all_below zero test = true
all_below (suc n) test = test n && all_below n test

abbrev pub is_unfalsified : End → Bool
is_unfalsified (Failed h) = false
is_unfalsified e = true

-- no choices with a number of b bits falsify a hint
abbrev pub is_closed_below : Course → ℕ → Bool
is_closed_below t b = all_below (2 ^ b) (λ n. is_unfalsified (run t (choices_at t b n)))

-- at every segment
abbrev pub all_tried : List Segment → Bool
all_tried [] = true
all_tried (g ∷ gs) = is_closed_below g.course g.choice_bits && all_tried gs
