-- Which formula a DIMACS text means, or its first fault. The header is four tokens, `p cnf V C`, over one
-- line or several. Then come C clauses: numbers with a 0 at the end, over one line or several. A line that
-- begins with `c` is left out where no clause is open.
-- The project's own: V and C are at most 10,000,000, and a fault stands at the token that breaks a rule, or
-- at the end of the text where a token is missing.
use Rattle.std.specs.Prelude.{◌≡◌, ◌⊎◌, ℕ, ◌+◌, ◌==◌, ◌&&◌, nat_le, not, Bool, true, false, if◌then◌else◌, cond, List, [], ◌∷◌, ◌++◌, length, Option, Some, None, Result, Ok, Err}
use Rattle.knox_text.specs.declared.place.Place.{Place}
use Rattle.knox_text.specs.Lines.{lines, begins_with}
use Rattle.knox_text.specs.Places.{start_of, end_of}
use Rattle.knox_cnf.specs.Literals.{Literal, literal}
use Rattle.knox_cnf.specs.declared.formula.Cnf.{Cnf}
use Rattle.proof_text.specs.declared.fault.ProofFault.{ProofFault}
use Rattle.proof_text.specs.declared.fault.ProofFault.TheVariants.{Header, Count, Variable, Shape, Memory}
use Rattle.proof_text.specs.declared.number.Number.{Number}
use Rattle.proof_text.specs.declared.draft.Stage.{Stage}
use Rattle.proof_text.specs.declared.draft.Stage.TheVariants.{Start, Format, Variables, Clauses, Body}
use Rattle.proof_text.specs.declared.draft.Draft.{Draft}
use Rattle.knox_text.specs.Numbers.{at_most}
use Rattle.knox_text.specs.Tokens.{Token, tokens, place_of}
use Rattle.proof_text.specs.Numbers.{number_of, unsigned}
use Rattle.proof_text.specs.Results.{and_then}

-- the tokens `p` and `cnf`
abbrev pub is_p : List ℕ → Bool
is_p (b ∷ []) = b == 112
is_p w = false

abbrev pub is_cnf : List ℕ → Bool
is_cnf (a ∷ b ∷ c ∷ []) = a == 99 && (b == 110 && c == 102)
is_cnf w = false

-- nothing was read
abbrev pub nothing : Draft
nothing = record { stage = Start; vars = 0; count = 0; clauses = []; open_clause = [] }

abbrev pub is_none : List Literal → Bool
is_none [] = true
is_none (l ∷ ls) = false

-- ---- the header

abbrev pub at_stage : Draft → Stage → Draft
at_stage d s = record d { stage = s }

abbrev pub expected : Bool → Place → Draft → Result Draft ProofFault
expected b at d = cond b (Ok d) (Err (Header at))

-- a number of the header: how many variables or clauses there are
abbrev pub size_of : List ℕ → Option ℕ
size_of w = at_most 10000000 (unsigned (number_of w))

abbrev pub with_vars : Draft → Place → Option ℕ → Result Draft ProofFault
with_vars d at None = Err (Header at)
with_vars d at (Some n) = Ok (record d { stage = Clauses; vars = n })

abbrev pub with_count : Draft → Place → Option ℕ → Result Draft ProofFault
with_count d at None = Err (Header at)
with_count d at (Some n) = Ok (record d { stage = Body; count = n })

-- ---- clauses

-- the formula has all its clauses
abbrev pub is_full : Draft → Bool
is_full d = is_none d.open_clause && length d.clauses == d.count

-- a number in a clause
abbrev pub with_number : Draft → Place → Number → Result Draft ProofFault
with_number d at n =
    if n.negative && n.magnitude == 0 then Err (Shape at)
    else if is_full d then Err (Count at)
    else if n.magnitude == 0 then Ok (record d { clauses = d.clauses ++ d.open_clause ∷ []; open_clause = [] })
    else if nat_le n.magnitude d.vars then Ok (record d { open_clause = d.open_clause ++ literal n.magnitude (not n.negative) ∷ [] })
    else Err (Variable at)

abbrev pub with_clause_token : Draft → Place → List ℕ → Option Number → Result Draft ProofFault
with_clause_token d at w None = Err (if is_p w then Header at else Shape at)
with_clause_token d at w (Some n) = with_number d at n

-- ---- tokens and lines

abbrev pub with_token_at : Draft → Stage → Place → List ℕ → Result Draft ProofFault
with_token_at d Start at w = expected (is_p w) at (at_stage d Format)
with_token_at d Format at w = expected (is_cnf w) at (at_stage d Variables)
with_token_at d Variables at w = with_vars d at (size_of w)
with_token_at d Clauses at w = with_count d at (size_of w)
with_token_at d Body at w = with_clause_token d at w (number_of w)

abbrev pub with_token : Draft → Place → List ℕ → Result Draft ProofFault
with_token d at w = with_token_at d d.stage at w

-- the tokens of a line with a number and a width
abbrev pub with_tokens : Draft → ℕ → ℕ → List Token → Result Draft ProofFault
with_tokens d n width [] = Ok d
with_tokens d n width (w ∷ ws) = and_then (with_token d (place_of n width w.left) w.bytes) (λ e. with_tokens e n width ws)

abbrev pub with_line : Draft → ℕ → List ℕ → Result Draft ProofFault
with_line d n l = if is_none d.open_clause && begins_with 99 l then Ok d else with_tokens d n (length l) (tokens l)

-- lines, of which the first has a number
abbrev pub with_lines : Draft → ℕ → List (List ℕ) → Result Draft ProofFault
with_lines d n [] = Ok d
with_lines d n (l ∷ ls) = and_then (with_line d n l) (λ e. with_lines e (n + 1) ls)

abbrev pub cnf : ℕ → List (List Literal) → Cnf
cnf vars clauses = record { vars = vars; clauses = clauses }

-- where the text ends
abbrev pub finished_at : Draft → Stage → Place → Result Cnf ProofFault
finished_at d Body end = if is_full d then Ok (cnf d.vars d.clauses) else Err (Count end)
finished_at d Start end = Err (Header end)
finished_at d Format end = Err (Header end)
finished_at d Variables end = Err (Header end)
finished_at d Clauses end = Err (Header end)

abbrev pub finished : Draft → Place → Result Cnf ProofFault
finished d end = finished_at d d.stage end

-- the formula that a text means, or its first fault
abbrev pub cnf_of : List ℕ → Result Cnf ProofFault
cnf_of text = and_then (with_lines nothing 1 (lines text)) (λ d. finished d (end_of (start_of text)))

-- what taking tokens answers, and the draft then, want of memory apart
abbrev pub Gives : Result (Unit {0}) ProofFault → Draft → Result Draft ProofFault → Type 0
Gives r new (Ok d) = (r ≡ Ok tt) × (new ≡ d)
Gives r new (Err f) = r ≡ Err f

abbrev pub Takes : Result (Unit {0}) ProofFault → Draft → Result Draft ProofFault → Type 0
Takes r new want = (r ≡ Err Memory) ⊎ Gives r new want
