-- From the reading of a formula and its answer to what the outcome says of the text.
use Rattle.std.proofs.Common.{◌≡◌, ℕ, true, refl, sym, inl, inr, ◌⊎◌, Result, Ok, Err}
use Rattle.knox_cnf.specs.Formulas.{is_within}
use Rattle.proof_text.specs.declared.fault.ProofFault.TheVariants as fault
use Rattle.proof_text.specs.Results.{Answers as Reads}
use Rattle.proof_text.proofs.CnfSound.{meant-within}
use Rattle.sat_core.specs.declared.answering.Solved.{Solved as Answer}
use Rattle.knox_run.specs.Words.{Bytes, Cnf, cnf_of, ProofFault, Answers, F}
use Rattle.knox_run.specs.Checking.{cause_of}
use Rattle.knox_run.specs.Solving.{IsSolved, ShowsOf, SolvesTo}

-- the formula that was read is what the text means
pub meant-of : (f : Bytes) (cnf : Cnf) → Reads (Ok cnf) (cnf_of f) → cnf_of f ≡ Ok cnf
meant-of f cnf (inl e) = cc
meant-of f cnf (inr e) = sym e

pub within-of : (f : Bytes) (cnf : Cnf) → Reads (Ok cnf) (cnf_of f) → is_within cnf.vars cnf.clauses ≡ true
within-of f cnf h = meant-within f cnf (meant-of f cnf h)

pub solved-of : (budget : ℕ) (f : Bytes) (cnf : Cnf) (answer : Answer) → Reads (Ok cnf) (cnf_of f) → Answers cnf budget answer → ShowsOf budget answer → IsSolved budget f answer
solved-of budget f cnf answer h a s = record { formula = cnf; meant = meant-of f cnf h; answers = a; shows = s }

told : (r : Result Cnf ProofFault) (why : ProofFault) → Reads (Err why) r → (why ≡ fault.Memory) ⊎ (r ≡ Err why)
told r why (inl e) = inl cc
told r why (inr e) = inr (sym e)

pub told-of : (budget : ℕ) (f : Bytes) (why : ProofFault) → Reads (Err why) (cnf_of f) → SolvesTo budget (cause_of F why) f
told-of budget f fault.Memory h = tt
told-of budget f (fault.Header at) h = elim (told (cnf_of f) (fault.Header at) h) as (λ _. SolvesTo budget (cause_of F (fault.Header at)) f) [ inl e ↦ cc | inr e ↦ (refl, e) ]
told-of budget f (fault.Count at) h = elim (told (cnf_of f) (fault.Count at) h) as (λ _. SolvesTo budget (cause_of F (fault.Count at)) f) [ inl e ↦ cc | inr e ↦ (refl, e) ]
told-of budget f (fault.Variable at) h = elim (told (cnf_of f) (fault.Variable at) h) as (λ _. SolvesTo budget (cause_of F (fault.Variable at)) f) [ inl e ↦ cc | inr e ↦ (refl, e) ]
told-of budget f (fault.Shape at) h = elim (told (cnf_of f) (fault.Shape at) h) as (λ _. SolvesTo budget (cause_of F (fault.Shape at)) f) [ inl e ↦ cc | inr e ↦ (refl, e) ]
