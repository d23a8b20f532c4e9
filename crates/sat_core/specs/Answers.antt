-- What the answers about a formula say.
use Rattle.std.specs.Prelude.{ℕ, ◌≡◌, true, false, length, map, None}
use Rattle.knox_cnf.specs.Formulas.{value_in, clauses_true}
use Rattle.knox_cnf.specs.declared.formula.Cnf.{Cnf}
use Rattle.lrat_check.specs.Derivations.{Proof, lits_of, is_closed}
use Rattle.sat_core.specs.declared.search.Search.{Search}
use Rattle.sat_core.specs.declared.answering.Outcome.{Outcome}
use Rattle.sat_core.specs.declared.answering.Outcome.TheVariants as outcome
use Rattle.sat_core.specs.declared.answering.Solved.{Solved}
use Rattle.sat_core.specs.declared.answering.Solved.TheVariants as solved
use Rattle.sat_core.specs.Newness.{are_new}
use Rattle.sat_core.specs.Solving.{IsSound}
use Rattle.sat_core.specs.Models.{Explored}
use Rattle.sat_core.specs.Deriving.{LearnsNew, Refutes}

-- a derivation of so many lemmas, each of them new, that isn't closed
pub record IsSpent (cnf : Cnf) (count : ℕ) (d : Proof) : Type 0 where
  pub cnf_is : d.cnf ≡ cnf
  pub left_open : is_closed d ≡ false
  pub count_is : length d.lemmas ≡ count
  pub all_new : are_new cnf.vars cnf.clauses (map lits_of d.lemmas) ≡ true

-- what a turn comes to
abbrev pub TurnsTo : Proof → Proof → Search → Search → Outcome → Type 0
TurnsTo d now s later outcome.Model = (now ≡ d) × IsSound now later × (length later.lists.items ≡ length s.lists.items) × Explored later.stored.items later.trail (length later.lists.items) None
TurnsTo d now s later outcome.Refuted = Refutes d now
TurnsTo d now s later outcome.Learned = IsSound now later × (length later.lists.items ≡ length s.lists.items) × LearnsNew (length s.lists.items) d now

-- .. and several
abbrev pub RunsTo : Cnf → ℕ → Proof → Search → Outcome → Type 0
RunsTo cnf budget d s outcome.Model = (d.cnf ≡ cnf) × IsSound d s × Explored s.stored.items s.trail (length s.lists.items) None
RunsTo cnf budget d s outcome.Refuted = (d.cnf ≡ cnf) × (is_closed d ≡ true)
RunsTo cnf budget d s outcome.Learned = IsSpent cnf budget d

-- values under which the formula is true, a derivation of the empty clause from it, or as many new lemmas as the budget allows
abbrev pub Answers : Cnf → ℕ → Solved → Type 0
Answers cnf budget (solved.Sat a) = (length a.values ≡ cnf.vars) × (clauses_true (value_in a.values) cnf.clauses ≡ true)
Answers cnf budget (solved.Unsat d) = (d.cnf ≡ cnf) × (is_closed d ≡ true)
Answers cnf budget (solved.Spent d) = IsSpent cnf budget d
