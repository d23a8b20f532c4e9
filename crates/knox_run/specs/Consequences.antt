-- What is known of a run by its status.
use Rattle.std.specs.Prelude.{◌≡◌, ℕ, ◌+◌, [], ◌++◌, Some, None, Ok, Err, codes, take, slice_index_or, ◌⊎◌}
use Rattle.knox_edge.specs.declared.shelf.ShelfEnd.TheVariants.{Failed}
use Rattle.knox_verify.specs.declared.verdict.VerifyFault.TheVariants as refusal
use Rattle.knox_run.specs.declared.status.Status.TheVariants as status
use Rattle.knox_run.specs.Words.{Bytes, limit, Rose, Agree, HintNo, Choices, RatStep, Letter, TextWhy, VerifyFault, Verdict, Yes, Undecided, TooWide, Parts, device, AllHold, FiveTexts, Means, FirstFault}
use Rattle.knox_cnf.specs.declared.formula.Assignment.{Assignment}
use Rattle.sat_core.specs.declared.answering.Solved.{Solved as Answer}
use Rattle.sat_core.specs.declared.answering.Solved.TheVariants as solved
use Rattle.knox_run.specs.Words.{Proof, Sat, Solved, Command, Status, CheckEnd, Verified, Rejected, NoEmptyClause, Outcome, Text, Judged, Checked, TextFault, OfDevice}
use Rattle.knox_run.specs.Commands.{command_of}
use Rattle.knox_run.specs.Checking.{ChecksTexts}
use Rattle.knox_run.specs.Solving.{SolvesTexts, solved_lines}
use Rattle.knox_run.specs.Lines.{usage_line, not_yet_line, cannot_read_line, text_line, check_line, verdict_lines}
use Rattle.knox_run.specs.Reading.{ReadUpTo, RefusesRead, OfTexts}
use Rattle.knox_run.specs.Runs.{Seen, IsVerify, IsCheck, IsSat, IsOther, IsVerified, OfFive, names_of, outcome_of}
use Rattle.knox_run.specs.Outcomes.{status_of, to_out, to_err}
use Rattle.knox_run.specs.Writing.{Whole}

-- the words are a verify command, the shelf gave five texts, and this is said of them
abbrev pub OfVerified : Seen → (FiveTexts → Type 0) → Type 0
OfVerified s said = IsVerify (command_of s.words) × OfTexts (OfFive said) (names_of s.words) s.before s.after

-- the words are a check command, the shelf gave two texts, and this is the outcome of their check
abbrev pub OfChecked : Seen → Outcome → Type 0
OfChecked s o = IsCheck (command_of s.words) × OfTexts (ChecksTexts o) (names_of s.words) s.before s.after

-- the words are a sat command, the shelf gave a text, and this is the outcome of solving it
abbrev pub OfSolved : Seen → Outcome → Type 0
OfSolved s o = (budget : ℕ) × (command_of s.words ≡ Some (Sat budget)) × OfTexts (SolvesTexts budget o) (names_of s.words) s.before s.after

-- where it is told, these texts were appended to `out` and to `err`, and no put failed
abbrev pub Wrote : Seen → Bytes → Bytes → Type 0
Wrote s out err = Whole s.out_before s.out_after out × Whole s.err_before s.err_after err

-- the status is that of an outcome, whose texts were appended
abbrev pub Tells : Seen → Outcome → Type 0
Tells s o = (s.status ≡ status_of o) × Wrote s (to_out o) (to_err (names_of s.words) o)

-- this, or a put failed, or memory was wanting
abbrev pub OrStops : Seen → Type 0 → Type 0
OrStops s said = said ⊎ ((s.status ≡ status.WriteFault) ⊎ (s.status ≡ status.Memory))

-- What a yes says: the words are a verify command, the shelf gave five texts, these mean parts whose two worlds agree, and `yes` was written to `out`, and nothing to `err`.
abbrev pub SaysYes : Seen → Type 0
SaysYes s = s.status ≡ status.Yes → OfVerified s (λ t. (p : Parts) × Means t p × Agree (device p)) × Wrote s (codes "yes\n") []

-- the script of a yes is closed
abbrev pub SaysClosed : Seen → Type 0
SaysClosed s = s.status ≡ status.Yes → OfVerified s (λ t. (p : Parts) × Means t p × AllHold p)

-- the texts of a yes mean one thing alone
abbrev pub SaysOneMeaning : Seen → Type 0
SaysOneMeaning s = s.status ≡ status.Yes → OfVerified s (λ t. (p q : Parts) → Means t p → Means t q → p ≡ q)

-- the five texts have this verdict, which was written
abbrev pub JudgedAs : Seen → Verdict → Type 0
JudgedAs s v = OfVerified s (λ t. IsVerified t (Ok v)) × Wrote s (verdict_lines v) []

-- the check of the two texts ends so, which was written
abbrev pub CheckedAs : Seen → CheckEnd → Type 0
CheckedAs s end = OfChecked s (Checked end) × Wrote s (check_line end) []

-- the formula of the text has this answer, which was written
abbrev pub SolvedAs : Seen → Answer → Type 0
SolvedAs s answer = OfSolved s (Solved answer) × Wrote s (solved_lines answer) []

-- a text is too long, or it is the first of five, of two or of one that has a fault, this one
abbrev pub Faulty : Seen → Letter → TextFault → Type 0
Faulty s letter why =
    ((c : Command) × (command_of s.words ≡ Some c) × RefusesRead c (names_of s.words) s.before s.after (Text letter why))
    ⊎ (((x : TextWhy) × (why ≡ OfDevice x) × OfVerified s (λ t. FirstFault t (refusal.Text letter x))) ⊎ (OfChecked s (Text letter why) ⊎ OfSolved s (Text letter why)))

-- why a status comes, and what was written with it
abbrev pub Explains : Seen → Status → Type 0
Explains s status.Yes = JudgedAs s Yes
Explains s status.Done = CheckedAs s Verified ⊎ (((a : Assignment) × SolvedAs s (solved.Sat a)) ⊎ ((d : Proof) × SolvedAs s (solved.Unsat d)))
Explains s status.Spent = (d : Proof) × SolvedAs s (solved.Spent d)
Explains s status.No = ((number : ℕ) × (why : RatStep) × CheckedAs s (Rejected number why)) ⊎ CheckedAs s NoEmptyClause
Explains s status.Undecided = (hint : HintNo) × (choices : Choices) × JudgedAs s (Undecided hint choices)
Explains s status.TooWide = (hint : HintNo) × (bits : ℕ) × JudgedAs s (TooWide hint bits)
Explains s status.Usage = (command_of s.words ≡ None) × (s.after ≡ s.before) × Wrote s [] usage_line
Explains s status.NotYet =
    ((IsOther (command_of s.words) × (s.after ≡ s.before)) ⊎ OfVerified s (λ t. FirstFault t refusal.NotYet)) × Wrote s [] not_yet_line
Explains s status.ReadFault =
    (which : ℕ) × (IsVerify (command_of s.words) ⊎ (IsCheck (command_of s.words) ⊎ IsSat (command_of s.words))) × ReadUpTo (names_of s.words) which Failed s.before s.after
    × Rose s.before.faults s.after.faults × Wrote s [] (cannot_read_line (slice_index_or (names_of s.words) which []))
Explains s status.Text = (letter : Letter) × (why : TextFault) × Faulty s letter why × Wrote s [] (text_line letter why)
Explains s status.WriteFault = Rose s.out_before.faults s.out_after.faults ⊎ Rose s.err_before.faults s.err_after.faults
Explains s status.Memory = Unit {0}

-- the names that were asked are a prefix of the command's texts
abbrev pub AsksPrefix : Seen → Type 0
AsksPrefix s = (count : ℕ) × (s.after.names ≡ s.before.names ++ take count (names_of s.words))

-- where the words are no command, the status says so
abbrev pub SaysUsage : Seen → Type 0
SaysUsage s = command_of s.words ≡ None → OrStops s (s.status ≡ status.Usage)

-- ---- five texts that the shelf gave

-- where they mean something there is a verdict,
abbrev pub IsComplete : Seen → Type 0
IsComplete s = OfVerified s (λ t. (p : Parts) × Means t p) → OrStops s ((v : Verdict) × (s.status ≡ status_of (Judged v)))

-- and a yes where the script that they mean is closed
abbrev pub IsCompleteYes : Seen → Type 0
IsCompleteYes s = OfVerified s (λ t. (p : Parts) × Means t p × AllHold p) → OrStops s (s.status ≡ status.Yes)

-- Their first fault is told, in its line.
abbrev pub TellsFirstFault : Seen → Type 0
TellsFirstFault s = (f : VerifyFault) → OfVerified s (λ t. FirstFault t f) → OrStops s (Tells s (outcome_of (Err f)))

-- the words are a verify command, no count of faults rose, and no read took more than a text may have
pub record IsUnhindered (s : Seen) : Type 0 where
  pub verify : IsVerify (command_of s.words)
  pub read : Rose s.before.faults s.after.faults → ⊥
  pub out_put : Rose s.out_before.faults s.out_after.faults → ⊥
  pub err_put : Rose s.err_before.faults s.err_after.faults → ⊥
  pub short : s.after.taken ≡ limit + 1 → ⊥

-- the shelf gives the five texts then, and no put fails, unless memory runs out
abbrev pub GoesThrough : Seen → Type 0
GoesThrough s = IsUnhindered s → (OfVerified s (λ t. Unit {0}) × (s.status ≡ status.WriteFault → ⊥)) ⊎ (s.status ≡ status.Memory)
