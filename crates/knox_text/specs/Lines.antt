-- The lines of a text.
-- The project's own: a line feed ends a line, and a carriage return directly before it belongs to
-- the end.
use Rattle.std.specs.Prelude.{ℕ, ◌==◌, ◌&&◌, Bool, false, if◌then◌else◌, List, [], ◌∷◌}

abbrev pub begins_with : ℕ → List ℕ → Bool
begins_with byte [] = false
begins_with byte (b ∷ bytes) = b == byte

-- one byte more at the front of the first of some lines
abbrev pub begun : ℕ → List (List ℕ) → List (List ℕ)
begun b [] = (b ∷ []) ∷ []
begun b (line ∷ others) = (b ∷ line) ∷ others

-- the lines with one byte more at the front, where a line feed stands next or not
abbrev pub with_byte : ℕ → Bool → List (List ℕ) → List (List ℕ)
with_byte b feed others = if b == 10 then [] ∷ others else if b == 13 && feed then others else begun b others

-- the lines of a text, without what ends them
abbrev pub lines : List ℕ → List (List ℕ)
lines [] = []
lines (b ∷ bytes) = with_byte b (begins_with 10 bytes) (lines bytes)
