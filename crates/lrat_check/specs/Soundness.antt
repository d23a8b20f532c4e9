-- What a derivation shows.
use Rattle.std.specs.Prelude.{ℕ, ◌≡◌, Bool, true, map}
use Rattle.knox_cnf.specs.Formulas.{clauses_true}
use Rattle.lrat_check.specs.Derivations.{Proof, lits_of}

-- every assignment that makes the formula true makes every lemma true
abbrev pub LemmasFollow : Proof → Type 0
LemmasFollow d =
    (v : ℕ → Bool) → clauses_true v d.cnf.clauses ≡ true → clauses_true v (map lits_of d.lemmas) ≡ true

-- no assignment makes the formula true
abbrev pub IsUnsatisfiable : Proof → Type 0
IsUnsatisfiable d = (v : ℕ → Bool) → clauses_true v d.cnf.clauses ≡ true → ⊥
