-- The check of a lemma with its hints, after LRAT without RAT lines. The literals of the lemma are taken
-- to be false, and the clauses that the hints name are read in order: one whose literals are all false
-- ends the check, and one with a single literal that isn't false makes it true.
-- The project's own: a literal that is true already may be the single one, and a lemma with complementary
-- literals passes at once.
use Rattle.std.specs.Prelude.{ℕ, Bool, true, false, cond, List, [], ◌∷◌, Option, Some, None, Result, Ok, Err, ℤ, pos, negsuc, unsigned_abs, map, ◌≡◌, ◌⊎◌}
use Rattle.std.specs.List.{list_any}
use Rattle.knox_cnf.specs.Literals.{Literal, complement, has}
use Rattle.lrat_check.specs.declared.reading.Reading.{Reading}
use Rattle.lrat_check.specs.declared.reading.Reading.TheVariants.{False, Unit as Forced, Other}
use Rattle.lrat_check.specs.declared.step.Step.{Step}
use Rattle.lrat_check.specs.declared.step.Step.TheVariants.{NoSuchClause, NotUnit, NoConflict, Memory}
use Rattle.lrat_check.specs.Marks.{with_true, all_with_true}
use Rattle.lrat_check.specs.Reading.{reading_of}

-- what a hint does: more literals are true, or the check ends
abbrev pub after_reading : List Literal → ℕ → Reading → Result (List Literal) (Result (Unit {0}) Step)
after_reading trail h False = Err (Ok tt)
after_reading trail h (Forced l) = Ok (with_true trail l)
after_reading trail h Other = Err (Err (NotUnit h))

abbrev pub after_clause : List Literal → ℕ → Option (List Literal) → Result (List Literal) (Result (Unit {0}) Step)
after_clause trail h None = Err (Err (NoSuchClause h))
after_clause trail h (Some c) = after_reading trail h (reading_of trail c)

-- one hint and then others
abbrev pub then_on : Result (List Literal) (Result (Unit {0}) Step) → (List Literal → Result (List Literal) (Result (Unit {0}) Step)) → Result (List Literal) (Result (Unit {0}) Step)
then_on (Ok trail) rest = rest trail
then_on (Err outcome) rest = Err outcome

-- what hints do in order, where a function tells which clause an id names
abbrev pub after_hints : (ℕ → Option (List Literal)) → List Literal → List ℤ → Result (List Literal) (Result (Unit {0}) Step)
after_hints clause trail [] = Ok trail
after_hints clause trail (h ∷ hs) =
    then_on (after_clause trail (unsigned_abs h) (clause (unsigned_abs h))) (λ t. after_hints clause t hs)

-- hints that end before a clause was false show nothing
abbrev pub ended : Result (List Literal) (Result (Unit {0}) Step) → Result (Unit {0}) Step
ended (Ok trail) = Err NoConflict
ended (Err outcome) = outcome

abbrev pub take_hints : (ℕ → Option (List Literal)) → List Literal → List ℤ → Result (Unit {0}) Step
take_hints clause trail hs = ended (after_hints clause trail hs)

abbrev pub is_tautology : List Literal → Bool
is_tautology c = list_any (has (map complement c)) c

abbrev pub check : (ℕ → Option (List Literal)) → List Literal → List ℤ → Result (Unit {0}) Step
check clause lits hints = cond (is_tautology lits) (Ok tt) (take_hints clause (all_with_true [] (map complement lits)) hints)

abbrev pub is_negative : ℤ → Bool
is_negative (pos n) = false
is_negative (negsuc n) = true

-- the wanted answer, or want of memory
abbrev pub Answers : Result (Unit {0}) Step → Result (Unit {0}) Step → Type 0
Answers r want = (r ≡ Err Memory) ⊎ (r ≡ want)

-- what hints answer (true where the check has ended), and the literals that are true then
abbrev pub Gives : Result (List Literal) (Result (Unit {0}) Step) → Result Bool Step → List Literal → Type 0
Gives (Ok trail) r t = (r ≡ Ok false) × (t ≡ trail)
Gives (Err (Ok x)) r t = r ≡ Ok true
Gives (Err (Err e)) r t = r ≡ Err e

-- .. or want of memory
abbrev pub Takes : Result (List Literal) (Result (Unit {0}) Step) → Result Bool Step → List Literal → Type 0
Takes want r t = (r ≡ Err Memory) ⊎ Gives want r t
