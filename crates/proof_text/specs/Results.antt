-- What a reader answers: a value, or the first fault.
use Rattle.std.specs.Prelude.{◌≡◌, ◌⊎◌, Result, Ok, Err}
use Rattle.proof_text.specs.declared.fault.ProofFault.{ProofFault}
use Rattle.proof_text.specs.declared.fault.ProofFault.TheVariants.{Memory}

abbrev pub and_then : {A B : Type 0} → Result A ProofFault → (A → Result B ProofFault) → Result B ProofFault
and_then (Ok x) f = f x
and_then (Err e) f = Err e

-- the wanted answer, or want of memory
abbrev pub Answers : {A : Type 0} → Result A ProofFault → Result A ProofFault → Type 0
Answers r want = (r ≡ Err Memory) ⊎ (r ≡ want)
