-- A solver: a derivation, and the literals that are true.
use Rattle.std.specs.Prelude.{ℕ, ◌≡◌, ◌⊎◌, true, List, []}
use Rattle.std.specs.Prelude.{Option, Some, None}
use Rattle.knox_cnf.specs.Literals.{Literal}
use Rattle.knox_cnf.specs.declared.formula.Cnf.{Cnf}
use Rattle.lrat_check.specs.declared.reading.Reading.TheVariants.{False}
use Rattle.lrat_check.specs.Reading.{reading_of}
use Rattle.lrat_check.specs.Derivations.{Proof, start_of, live_clause}
use Rattle.sat_core.specs.declared.solver.Solver.TheInside.{Inside}
use Rattle.sat_core.specs.Plain.{IsPlain, clauses_of}
use Rattle.sat_core.specs.Propagation.{is_quiet}
use Rattle.sat_core.specs.Explained.{SameClauses}
use Rattle.sat_core.specs.declared.search.Search.{Search}
use Rattle.sat_core.specs.Searching.{IsSearch}

pub record Solving : Type 0 where
  pub derivation : Proof
  pub trail : List Literal

-- before any step
abbrev pub fresh : Cnf → Solving
fresh cnf = record { derivation = start_of cnf; trail = [] }

-- how a propagation ends: with the id of a clause that is false, or all clauses of formula and lemmas rest
abbrev pub EndsAt : Proof → List Literal → Option ℕ → Type 0
EndsAt d trail None = is_quiet (clauses_of d) trail ≡ true
EndsAt d trail (Some id) = (c : List Literal) × (live_clause d id ≡ Some c) × (reading_of trail c ≡ False)

abbrev pub solving_of : Inside → Solving
solving_of s = record { derivation = s.derivation; trail = s.search.trail }

-- what a derivation and a search say together
pub record IsSound (d : Proof) (s : Search) : Type 0 where
  pub plain : IsPlain d
  pub same : SameClauses (clauses_of d) s.stored.items
  pub search : IsSearch s

-- sound, or memory ran out in the midst of a step
abbrev pub IsSolver : Inside → Type 0
IsSolver s = (s.broken ≡ true) ⊎ IsSound s.derivation s.search
