-- What a refutation shows. A lemma with groups needn't follow from the clauses before it, but an assignment
-- that makes them true can be changed into one that makes the lemma true too.
use Rattle.std.specs.Prelude.{ℕ, ◌≡◌, Bool, true, Option, Some, List}
use Rattle.knox_cnf.specs.Literals.{Literal}
use Rattle.knox_cnf.specs.Formulas.{clause_true, clauses_true}
use Rattle.lrat_check.specs.Derivations.{Proof, live_clause}

abbrev pub AllTrue : (ℕ → Bool) → (ℕ → Option (List Literal)) → Type 0
AllTrue v clause = (id : ℕ) (c : List Literal) → clause id ≡ Some c → clause_true v c ≡ true

-- if an assignment makes the formula true, one makes all live clauses true
abbrev pub StaysSatisfiable : Proof → Type 0
StaysSatisfiable d =
    (v : ℕ → Bool) → clauses_true v d.cnf.clauses ≡ true → (w : ℕ → Bool) × AllTrue w (live_clause d)
