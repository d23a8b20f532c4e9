-- What checking a proof of a formula comes to. The lines of the proof are taken in order, each against the refutation that the lines before it
-- have led to. Standard: LRAT, by the definitions of `rat_check`; DIMACS, by those of `knox_cnf`.
use Rattle.std.specs.Prelude.{◌≡◌, ℕ, Bool, true, if◌then◌else◌, List, [], ◌∷◌, Option, Some, None, Result, Ok, Err}
use Rattle.std.specs.Result.{result_map_both}
use Rattle.proof_text.specs.declared.fault.ProofFault.TheVariants as fault
use Rattle.knox_run.specs.Words.{Bytes, Cnf, clauses_true, cnf_of, ProofLine, Add, Delete, ProofFault, lrat_of, Proof, proof, lemma, start_of, answer, with_lemma, live_without, is_closed, RatStep}
use Rattle.knox_run.specs.Words.{CheckEnd, Verified, Rejected, NoEmptyClause, Letter, F, P, Outcome, Text, Checked, Memory, OfProof}

-- ---- lines

-- the number of the text's line
abbrev pub line_number : ProofLine → ℕ
line_number (Add n id lits hints) = n
line_number (Delete n ids) = n

-- the refutation after a line that is accepted, or why it is refused
abbrev pub with_line : Proof → ProofLine → Result Proof RatStep
with_line d (Add n id lits hints) = result_map_both (λ x. with_lemma d (lemma id lits [])) (λ why. why) (answer d id lits hints)
with_line d (Delete n ids) = result_map_both (λ live. proof d.cnf d.lemmas live) (λ why. why) (live_without d ids)

-- the end that comes behind a line that is accepted; one that is refused is the end
abbrev pub end_behind : ProofLine → (Proof → CheckEnd) → Result Proof RatStep → CheckEnd
end_behind l end (Ok d) = end d
end_behind l end (Err why) = Rejected (line_number l) why

-- how the check of some lines ends, from a refutation on
abbrev pub end_of : List ProofLine → Proof → CheckEnd
end_of [] d = if is_closed d then Verified else NoEmptyClause
end_of (l ∷ ls) d = end_behind l (end_of ls) (with_line d l)

-- the same, where a line before them may have been refused
abbrev pub end_with : Option (ℕ × RatStep) → List ProofLine → Proof → CheckEnd
end_with None ls d = end_of ls d
end_with (Some refused) ls d = Rejected refused.0 refused.1

-- ---- two texts

-- how the check of a formula and a proof ends; or the first text that has a fault, and its first fault
abbrev pub check_of : Result Cnf ProofFault → Result (List ProofLine) ProofFault → Result CheckEnd (Letter × ProofFault)
check_of (Err why) lines = Err (F, why)
check_of (Ok formula) (Err why) = Err (P, why)
check_of (Ok formula) (Ok lines) = Ok (end_of lines (start_of formula))

-- what the end shows of the formula: a proof that is verified, that no assignment makes the formula true
abbrev pub Shows : CheckEnd → Cnf → Type 0
Shows Verified formula = (v : ℕ → Bool) → clauses_true v formula.clauses ≡ true → ⊥
Shows _ formula = Unit {0}

-- a fault of a text, or want of memory
abbrev pub cause_of : Letter → ProofFault → Outcome
cause_of letter fault.Memory = Memory
cause_of letter f = Text letter (OfProof f)

-- what the outcome of a check says of its texts
abbrev pub ChecksTo : Outcome → Bytes → Bytes → Type 0
ChecksTo (Checked end) f p = (formula : Cnf) × (cnf_of f ≡ Ok formula) × (check_of (Ok formula) (lrat_of p) ≡ Ok end) × Shows end formula
ChecksTo (Text letter (OfProof why)) f p = check_of (cnf_of f) (lrat_of p) ≡ Err (letter, why)
ChecksTo Memory f p = Unit {0}
ChecksTo _ f p = ⊥

-- the same of a list of two texts
abbrev pub ChecksTexts : Outcome → List Bytes → Type 0
ChecksTexts o ts = (f : Bytes) × (p : Bytes) × (ts ≡ f ∷ p ∷ []) × ChecksTo o f p
