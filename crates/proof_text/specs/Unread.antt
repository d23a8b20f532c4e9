-- What is left of a proof's text while it is read, and what reading its next line answers.
use Rattle.std.specs.Prelude.{◌≡◌, ◌⊎◌, ℕ, List, [], ◌∷◌, Option, Some, None, Result, Ok, Err}
use Rattle.knox_text.specs.Lines.{lines}
use Rattle.proof_text.specs.declared.fault.ProofFault.{ProofFault}
use Rattle.proof_text.specs.declared.fault.ProofFault.TheVariants.{Memory}
use Rattle.proof_text.specs.declared.proof_line.ProofLine.{ProofLine}
use Rattle.proof_text.specs.Results.{and_then}
use Rattle.proof_text.specs.Lrat.{lines_of}

-- the number of the next line, and the bytes from there on
pub record Unread : Type 0 where
  pub number : ℕ
  pub text : List ℕ

abbrev pub unread : ℕ → List ℕ → Unread
unread n text = record { number = n; text = text }

-- the lines of the proof that are left, or the first fault of what is left
abbrev pub lines_left : Unread → Result (List ProofLine) ProofFault
lines_left u = lines_of u.number (lines u.text)

-- a line is the first of those that were left, before those that are left now
abbrev pub ReadsNext : Result (Option ProofLine) ProofFault → Result (List ProofLine) ProofFault → Result (List ProofLine) ProofFault → Type 0
ReadsNext (Ok (Some line)) old new = old ≡ and_then new (λ ls. Ok (line ∷ ls))
ReadsNext (Ok None) old new = old ≡ Ok []
ReadsNext (Err f) old new = (f ≡ Memory) ⊎ (old ≡ Err f)
