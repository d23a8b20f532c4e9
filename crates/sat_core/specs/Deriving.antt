-- What a solver adds to a derivation.
use Rattle.std.specs.Prelude.{ℕ, ◌≡◌, ◌<◌, true, false, List, [], length, slice_index_or, ℤ}
use Rattle.knox_cnf.specs.Literals.{Literal}
use Rattle.lrat_check.specs.Derivations.{Proof, with_lemma, lemma as made_lemma, is_empty}
use Rattle.sat_core.specs.Chains.{falsifies, clause_at}
use Rattle.sat_core.specs.Cones.{HasReasons}
use Rattle.sat_core.specs.Newness.{contains_none, has_no_pair}
use Rattle.sat_core.specs.Plain.{clauses_of, next_id}
use Rattle.sat_core.specs.Storing.{Fits}

-- one more lemma, over the variables that have lists, which contains no clause before it and no literal with its complement
pub record LearnsNew (n : ℕ) (old new : Proof) : Type 0 where
  pub lits : List Literal
  pub hints : List ℤ
  pub added : new ≡ with_lemma old (made_lemma (next_id old) lits hints)
  pub fresh : contains_none (clauses_of old) lits ≡ true
  pub unpaired : has_no_pair lits ≡ true
  pub fits : Fits lits n
  pub some : is_empty lits ≡ false

-- the empty lemma
pub record Refutes (old new : Proof) : Type 0 where
  pub hints : List ℤ
  pub added : new ≡ with_lemma old (made_lemma (next_id old) [] hints)

-- a clause is false, and every literal of the trail has a reason
pub record IsRefuted (cs : List (List Literal)) (trail : List Literal) (reasons : List ℕ) (conflict : ℕ) : Type 0 where
  pub inside : conflict < length cs
  pub false_now : falsifies trail (clause_at cs conflict) ≡ true
  pub reasoned : (p : ℕ) → p < length trail → HasReasons cs trail reasons p

-- all places below a number, in order
pub record ArePlaces (ps : List ℕ) (n : ℕ) : Type 0 where
  pub long : length ps ≡ n
  pub each : (k : ℕ) → k < n → slice_index_or ps k 0 ≡ k
