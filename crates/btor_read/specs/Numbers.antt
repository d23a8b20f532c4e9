-- What the numbers of a line are. They are decimal, of any length, and may begin with zeros.
-- The project's own: a number that doesn't fit its place is handed on as one that is refused in the same
-- way, 0 where a sort is named and the greatest of its place elsewhere.
use Rattle.std.specs.Prelude.{ℕ, ◌-◌, ◌^◌, ◌==◌, min, nat_le, ℤ, pos, neg_ℤ, Bool, true, false, if◌then◌else◌, List, [], ◌∷◌, Option, Some, None}
use Rattle.std.specs.Option.{option_map}
use Rattle.knox_text.specs.Numbers.{natural, at_most}

abbrev pub unless_zero : Option ℕ → Option ℕ
unless_zero None = None
unless_zero (Some n) = if n == 0 then None else Some n

-- the number of a line, or how many nodes a list has
abbrev pub positive : List ℕ → Option ℕ
positive t = unless_zero (at_most 4294967295 (natural t))

-- a number of 32 bits, with another in place of a greater one
abbrev pub number_or : ℕ → List ℕ → Option ℕ
number_or beyond t = option_map (λ n. if nat_le n 4294967295 then n else beyond) (natural t)

-- a node's number, below 0 where it stands behind a minus
abbrev pub node : Bool → ℕ → ℤ
node true n = if nat_le n (2 ^ 63) then neg_ℤ (pos n) else pos (2 ^ 63 - 1)
node false n = pos (min n (2 ^ 63 - 1))

abbrev pub signed : Bool → List ℕ → Option ℤ
signed negative digits = option_map (node negative) (natural digits)

abbrev pub node_number : List ℕ → Option ℤ
node_number [] = None
node_number (b ∷ bytes) = if b == 45 then signed true bytes else signed false (b ∷ bytes)
