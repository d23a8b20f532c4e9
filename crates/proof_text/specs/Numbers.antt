-- The numbers that tokens spell, after DIMACS and LRAT: a run of decimal digits, which may begin with zeros,
-- with or without one minus directly before it.
use Rattle.std.specs.Prelude.{ℕ, ◌==◌, Bool, true, false, if◌then◌else◌, List, [], ◌∷◌, Option, Some, None}
use Rattle.knox_text.specs.Numbers.{natural}
use Rattle.proof_text.specs.declared.number.Number.{Number}

abbrev pub with_sign : Bool → Option ℕ → Option Number
with_sign negative None = None
with_sign negative (Some n) = Some (record { negative = negative; magnitude = n })

-- the number that a token spells
abbrev pub number_of : List ℕ → Option Number
number_of [] = None
number_of (b ∷ bytes) = if b == 45 then with_sign true (natural bytes) else with_sign false (natural (b ∷ bytes))

-- a number without a minus
abbrev pub unsigned : Option Number → Option ℕ
unsigned None = None
unsigned (Some n) = if n.negative then None else Some n.magnitude
