-- Lines of a proof, taken one after another while they are read.
use Rattle.std.proofs.Common.{◌≡◌, ◌∙◌, ℕ, List, ◌∷◌, ap, Option, Result, Ok, Err}
use Rattle.proof_text.specs.Results.{and_then}
use Rattle.knox_run.specs.Words.{ProofLine, ProofFault, Proof, RatStep, CheckEnd}
use Rattle.knox_run.specs.Checking.{end_with}

-- how the check of the lines that are left ends, or their first fault
abbrev pub end_left : Option (ℕ × RatStep) → Proof → Result (List ProofLine) ProofFault → Result CheckEnd ProofFault
end_left refused d left = and_then left (λ ls. Ok (end_with refused ls d))

-- one line that was read and taken
pub end-next : (refused now : Option (ℕ × RatStep)) (d e : Proof) (l : ProofLine) (old new : Result (List ProofLine) ProofFault) → old ≡ and_then new (λ ls. Ok (l ∷ ls)) →
    ((ls : List ProofLine) → end_with refused (l ∷ ls) d ≡ end_with now ls e) → end_left refused d old ≡ end_left now e new
end-next refused now d e l old (Ok ls) read takes = ap (end_left refused d) read ∙ ap (λ end. Ok end) (takes ls)
end-next refused now d e l old (Err f) read takes = ap (end_left refused d) read
