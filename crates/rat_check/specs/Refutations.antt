-- What the calls of a refutation answer. A refutation is a formula with lemmas of which some clauses are
-- live, as a derivation is; the hints of its lemmas aren't kept.
use Rattle.std.specs.Prelude.{ℕ, ◌≡◌, Bool, not, cond, List, Result, Ok, Err, ℤ}
use Rattle.knox_cnf.specs.Literals.{Literal}
use Rattle.lrat_check.specs.Register.{all_ids, is_new, deleted, Entries}
use Rattle.lrat_check.specs.Derivations.{Proof, entries_of, live_clause}
use Rattle.rat_check.specs.declared.rat_step.RatStep.{RatStep}
use Rattle.rat_check.specs.declared.rat_step.RatStep.TheVariants.{IdNotNew, NoSuchClause}
use Rattle.rat_check.specs.Rat.{check}

-- the answer to a lemma, want of memory apart
abbrev pub answer : Proof → ℕ → List Literal → List ℤ → Result (Unit {0}) RatStep
answer d id lits hs =
    cond (not (is_new (entries_of d) id)) (Err (IdNotNew id)) (check (live_clause d) (all_ids (entries_of d)) lits hs)

-- some hints show the lemma
abbrev pub IsShown : Proof → List Literal → Type 0
IsShown d lits = (hs : List ℤ) × (check (live_clause d) (all_ids (entries_of d)) lits hs ≡ Ok tt)

-- deleting clauses: which clauses are live then, or the first id that isn't live
abbrev pub live_after : Result Entries ℕ → Result (List Bool) RatStep
live_after (Ok e) = Ok e.live
live_after (Err id) = Err (NoSuchClause id)

abbrev pub live_without : Proof → List ℕ → Result (List Bool) RatStep
live_without d ids = live_after (deleted (entries_of d) ids)
