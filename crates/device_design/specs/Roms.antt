-- The words of a state of which some are ROM words: which words a run takes, and all words from those. A ROM word has one
-- value in every state, so that it is known beforehand and never taken.
-- The project's own. Nobody has to believe it for a yes, since no answer of the two worlds depends on what a design adds to its device.
use Rattle.std.specs.Prelude.{ℕ, ◌&&◌, List, [], ◌∷◌, map, Bool, true, false, Option, Some, None, unwrap_or}
use Rattle.knox_words.specs.Lists.{Words, fits, pick, merge}
use Rattle.knox_words.specs.Bits.{Bits, bits}
use Rattle.knox_theory.specs.Design.{Part}
use Rattle.knox_circuit.specs.Rom.{free_mask}

-- known words in their places, and zero words at the places where none is known
abbrev pub known_words : List (Option Bits) → Words
known_words known = map (λ (o : Option Bits). unwrap_or o (bits 1 0)) known

-- whether what is known is of places with these widths, one for one, and each known word has the width of its place
abbrev pub known_fit : List (Option Bits) → List ℕ → Bool
known_fit [] [] = true
known_fit [] (w ∷ ws) = false
known_fit (o ∷ os) [] = false
known_fit (None ∷ os) (w ∷ ws) = known_fit os ws
known_fit (Some v ∷ os) (w ∷ ws) = fits w v && known_fit os ws

-- words of these widths, of which those that are known are never taken
abbrev pub rom_part : List (Option Bits) → List ℕ → Part
rom_part known ws = record {
  widths = pick (free_mask known) ws;
  fill = λ taken. merge (free_mask known) (known_words known) taken;
  strip = λ words. pick (free_mask known) words;
}
