-- The check of a lemma with its hints, after LRAT with RAT lines. The literals of the lemma are taken to
-- be false, and the hints before the first negative one are taken in order. Where no clause of them is
-- false, the lemma has to be a resolution asymmetric tautology on its pivot, the first literal: for each
-- live clause with the pivot's complement a group of hints shows that no other literal of it is true, or
-- one of them is true already.
-- The project's own: lemmas and clauses are read as sets, a lemma with complementary literals passes at
-- once, and a second group for one clause is allowed.
use Rattle.std.specs.Prelude.{ℕ, ◌≡◌, ◌⊎◌, Bool, false, not, cond, ◌&&◌, List, [], ◌∷◌, Option, Some, None, Result, Ok, Err, ℤ, map}
use Rattle.std.specs.List.{list_any, filter, find}
use Rattle.knox_cnf.specs.Literals.{Literal, complement, same_literal, has}
use Rattle.lrat_check.specs.declared.step.Step.{Step}
use Rattle.lrat_check.specs.declared.step.Step.TheVariants.{NoSuchClause as Missing, NotUnit as Unfit, Memory as Full}
use Rattle.lrat_check.specs.Marks.{all_with_true}
use Rattle.lrat_check.specs.Hints.{after_hints, is_tautology}
use Rattle.rat_check.specs.declared.rat_step.RatStep.{RatStep}
use Rattle.rat_check.specs.declared.rat_step.RatStep.TheVariants.{NoSuchClause, NotUnit, NoConflict, NoPivot, NotPivot, Uncovered, Memory}
use Rattle.rat_check.specs.Groups.{Group, parts_of, has_group}

-- why hints are refused
abbrev pub told : Step → RatStep
told (Missing i) = NoSuchClause i
told (Unfit i) = NotUnit i
told Full = Memory
told _ = NoConflict

-- the literals of a clause but for one
abbrev pub others : Literal → List Literal → List Literal
others q c = filter (λ l. not (same_literal q l)) c

-- ---- groups

abbrev pub group_ended : Result (List Literal) (Result (Unit {0}) Step) → Result (Unit {0}) RatStep
group_ended (Ok trail) = Err NoConflict
group_ended (Err (Ok x)) = Ok tt
group_ended (Err (Err e)) = Err (told e)

-- the other literals of the clause are taken to be false besides, if none of them is true
abbrev pub group_shown : (ℕ → Option (List Literal)) → Literal → List Literal → List ℤ → List Literal → Result (Unit {0}) RatStep
group_shown clause q trail hs c =
    cond (list_any (has trail) (others q c)) (Ok tt)
    (group_ended (after_hints clause (all_with_true trail (map complement (others q c))) hs))

abbrev pub group_about : (ℕ → Option (List Literal)) → Literal → List Literal → Group → Option (List Literal) → Result (Unit {0}) RatStep
group_about clause q trail g None = Err (NoSuchClause g.id)
group_about clause q trail g (Some c) = cond (has c q) (group_shown clause q trail g.hints c) (Err (NotPivot g.id))

abbrev pub group_answer : (ℕ → Option (List Literal)) → Literal → List Literal → Group → Result (Unit {0}) RatStep
group_answer clause q trail g = group_about clause q trail g (clause g.id)

abbrev pub first_then : Result (Unit {0}) RatStep → Result (Unit {0}) RatStep → Result (Unit {0}) RatStep
first_then (Ok x) rest = rest
first_then (Err e) rest = Err e

-- each group begins with what was true before all of them
abbrev pub groups_answer : (ℕ → Option (List Literal)) → Literal → List Literal → List Group → Result (Unit {0}) RatStep
groups_answer clause q trail [] = Ok tt
groups_answer clause q trail (g ∷ gs) = first_then (group_answer clause q trail g) (groups_answer clause q trail gs)

-- ---- clauses with the pivot's complement

abbrev pub holds_in : Option (List Literal) → Literal → Bool
holds_in None q = false
holds_in (Some c) q = has c q

abbrev pub is_uncovered : (ℕ → Option (List Literal)) → Literal → List Group → ℕ → Bool
is_uncovered clause q gs id = holds_in (clause id) q && not (has_group gs id)

-- a clause that is left is named, where there are groups
abbrev pub left_over : List Group → ℕ → RatStep
left_over [] i = NoConflict
left_over (g ∷ gs) i = Uncovered i

abbrev pub covered : List Group → Option ℕ → Result (Unit {0}) RatStep
covered gs None = Ok tt
covered gs (Some i) = Err (left_over gs i)

-- ---- a lemma

abbrev pub pivotless : List Group → RatStep
pivotless [] = NoConflict
pivotless (g ∷ gs) = NoPivot

-- where the ids of all clauses rise, the first one is the smallest
abbrev pub by_pivot : (ℕ → Option (List Literal)) → List ℕ → List Literal → List Group → List Literal → Result (Unit {0}) RatStep
by_pivot clause ids [] gs trail = Err (pivotless gs)
by_pivot clause ids (l ∷ ls) gs trail =
    first_then (groups_answer clause (complement l) trail gs) (covered gs (find (is_uncovered clause (complement l) gs) ids))

abbrev pub after_lead : (ℕ → Option (List Literal)) → List ℕ → List Literal → List Group → Result (List Literal) (Result (Unit {0}) Step) → Result (Unit {0}) RatStep
after_lead clause ids lits gs (Ok trail) = by_pivot clause ids lits gs trail
after_lead clause ids lits gs (Err (Ok x)) = Ok tt
after_lead clause ids lits gs (Err (Err e)) = Err (told e)

abbrev pub check : (ℕ → Option (List Literal)) → List ℕ → List Literal → List ℤ → Result (Unit {0}) RatStep
check clause ids lits hs =
    cond (is_tautology lits) (Ok tt)
    (after_lead clause ids lits (parts_of hs).groups (after_hints clause (all_with_true [] (map complement lits)) (parts_of hs).lead))

-- the wanted answer, or want of memory
abbrev pub Answers : Result (Unit {0}) RatStep → Result (Unit {0}) RatStep → Type 0
Answers r want = (r ≡ Err Memory) ⊎ (r ≡ want)
