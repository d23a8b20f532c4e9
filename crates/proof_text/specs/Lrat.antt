-- Which proof an LRAT text means, or its first fault. A line adds a lemma, `id lits 0 hints 0`, or deletes
-- clauses, `id d ids 0`. A line without tokens is left out, and so is one that begins with `c`.
-- The project's own: a fault stands at the token that breaks a rule, or at the end of the line where a token
-- is missing. The id of a deletion may be any run of digits.
use Rattle.std.specs.Prelude.{◌≡◌, ℕ, ◌+◌, ◌^◌, ◌==◌, nat_lt, nat_le, not, Bool, true, false, if◌then◌else◌, List, [], ◌∷◌, ◌++◌, length, Option, Some, None, Result, Ok, Err, ℤ, pos, option_to_list}
use Rattle.knox_text.specs.declared.place.Place.{Place}
use Rattle.knox_text.specs.Lines.{lines, begins_with}
use Rattle.knox_cnf.specs.Literals.{Literal, literal, negated}
use Rattle.proof_text.specs.declared.fault.ProofFault.{ProofFault}
use Rattle.proof_text.specs.declared.fault.ProofFault.TheVariants.{Shape}
use Rattle.proof_text.specs.declared.number.Number.{Number}
use Rattle.proof_text.specs.declared.proof_line.ProofLine.{ProofLine}
use Rattle.proof_text.specs.declared.proof_line.ProofLine.TheVariants.{Add, Delete}
use Rattle.knox_text.specs.Tokens.{Token, tokens, place_of}
use Rattle.proof_text.specs.Numbers.{number_of, unsigned}
use Rattle.proof_text.specs.Results.{and_then}

-- ---- a number in a list that a 0 ends: None where it can't stand there, and Some None at the end

abbrev pub literal_number : Option Number → Option (Option Literal)
literal_number None = None
literal_number (Some n) =
    if n.magnitude == 0 then (if n.negative then None else Some None)
    else if nat_lt n.magnitude (2 ^ 63) then Some (Some (literal n.magnitude (not n.negative)))
    else None

abbrev pub literal_at : List ℕ → Option (Option Literal)
literal_at w = literal_number (number_of w)

abbrev pub hint_number : Option Number → Option (Option ℤ)
hint_number None = None
hint_number (Some n) =
    if n.magnitude == 0 then (if n.negative then None else Some None)
    else if n.negative then (if nat_le n.magnitude (2 ^ 63) then Some (Some (negated n.magnitude)) else None)
    else if nat_lt n.magnitude (2 ^ 63) then Some (Some (pos n.magnitude))
    else None

abbrev pub hint_at : List ℕ → Option (Option ℤ)
hint_at w = hint_number (number_of w)

abbrev pub id_number : Option ℕ → Option (Option ℕ)
id_number None = None
id_number (Some n) = if n == 0 then Some None else if nat_lt n (2 ^ 64) then Some (Some n) else None

abbrev pub id_at : List ℕ → Option (Option ℕ)
id_at w = id_number (unsigned (number_of w))

-- ---- lists of numbers

abbrev pub number_then : {A : Type 0} → Option (Option A) → Place → List Token → Result (List A × List Token) ProofFault → Result (List A × List Token) ProofFault
number_then None at ws more = Err (Shape at)
number_then (Some None) at ws more = Ok ([], ws)
number_then (Some (Some x)) at ws more = and_then more (λ p. Ok (x ∷ p.0, p.1))

-- the numbers up to the 0, and the tokens behind it
abbrev pub numbers : {A : Type 0} → (List ℕ → Option (Option A)) → ℕ → ℕ → List Token → Result (List A × List Token) ProofFault
numbers read n width [] = Err (Shape (place_of n width 0))
numbers read n width (w ∷ ws) = number_then (read w.bytes) (place_of n width w.left) ws (numbers read n width ws)

-- ---- lines

-- no token is left
abbrev pub ended : ℕ → ℕ → List Token → ProofLine → Result (Option ProofLine) ProofFault
ended n width [] line = Ok (Some line)
ended n width (w ∷ ws) line = Err (Shape (place_of n width w.left))

abbrev pub addition : ℕ → ℕ → ℕ → List Token → Result (Option ProofLine) ProofFault
addition n width id ws =
    and_then (numbers literal_at n width ws) (λ ls.
    and_then (numbers hint_at n width ls.1) (λ hs.
    ended n width hs.1 (Add n id ls.0 hs.0)))

abbrev pub deletion : ℕ → ℕ → List Token → Result (Option ProofLine) ProofFault
deletion n width ws = and_then (numbers id_at n width ws) (λ is. ended n width is.1 (Delete n is.0))

-- the token `d`
abbrev pub is_d : List ℕ → Bool
is_d (b ∷ []) = b == 100
is_d w = false

abbrev pub begins_with_d : List Token → Bool
begins_with_d [] = false
begins_with_d (w ∷ ws) = is_d w.bytes

-- some tokens are the token `d` and others
abbrev pub has_d : List Token → List Token → Type 0
has_d [] others = ⊥
has_d (w ∷ ws) others = (is_d w.bytes ≡ true) × (ws ≡ others)

abbrev pub addition_if : ℕ → ℕ → Place → ℕ → List Token → Result (Option ProofLine) ProofFault
addition_if n width at id ws = if nat_lt id (2 ^ 64) then addition n width id ws else Err (Shape at)

abbrev pub after_id : ℕ → ℕ → Place → ℕ → List Token → Result (Option ProofLine) ProofFault
after_id n width at id [] = addition_if n width at id []
after_id n width at id (w ∷ ws) = if is_d w.bytes then deletion n width ws else addition_if n width at id (w ∷ ws)

abbrev pub with_id : ℕ → ℕ → Place → Option ℕ → List Token → Result (Option ProofLine) ProofFault
with_id n width at None ws = Err (Shape at)
with_id n width at (Some id) ws = after_id n width at id ws

-- what the tokens of a line with a number and a width mean
abbrev pub entry : ℕ → ℕ → List Token → Result (Option ProofLine) ProofFault
entry n width [] = Ok None
entry n width (w ∷ ws) = with_id n width (place_of n width w.left) (unsigned (number_of w.bytes)) ws

abbrev pub line_of : ℕ → List ℕ → Result (Option ProofLine) ProofFault
line_of n l = if begins_with 99 l then Ok None else entry n (length l) (tokens l)

abbrev pub lines_of : ℕ → List (List ℕ) → Result (List ProofLine) ProofFault
lines_of n [] = Ok []
lines_of n (l ∷ ls) = and_then (line_of n l) (λ e. and_then (lines_of (n + 1) ls) (λ es. Ok (option_to_list e ++ es)))

-- the lines that a text means, or its first fault
abbrev pub lrat_of : List ℕ → Result (List ProofLine) ProofFault
lrat_of text = lines_of 1 (lines text)
