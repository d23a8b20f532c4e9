-- A run as it is seen from outside, and why it ends as it does.
use Rattle.std.specs.Prelude.{◌≡◌, ℕ, List, [], ◌∷◌, Option, Some, None, take, drop, ◌⊎◌, Result, Ok, Err, IfOk, IfErr}
use Rattle.knox_verify.specs.declared.verdict.VerifyFault.TheVariants as refusal
use Rattle.knox_run.specs.Words.{Bytes, Reads, Sunk, Agree, Verdict, Yes, VerifyFault, Parts, device, AllHold, FiveTexts, Means, FirstFault, OrMemory, Decides}
use Rattle.knox_run.specs.Words.{Command, Verify, Sat, Check, Status, Outcome, NoCommand, Unbuilt, Text, Judged, Memory, OfDevice}
use Rattle.knox_run.specs.Commands.{command_of, most_texts}
use Rattle.knox_run.specs.Checking.{ChecksTexts}
use Rattle.knox_run.specs.Solving.{SolvesTexts}
use Rattle.knox_run.specs.Reading.{RefusesRead, OfTexts}
use Rattle.knox_run.specs.Outcomes.{status_of, to_out, to_err}
use Rattle.knox_run.specs.Writing.{Delivers}

-- What is seen of a run: its words, what the shelf and the sinks tell before it and after it, and its status.
pub record Seen : Type 0 where
  pub words : List Bytes
  pub before : Reads
  pub after : Reads
  pub out_before : Sunk
  pub out_after : Sunk
  pub err_before : Sunk
  pub err_after : Sunk
  pub status : Status

abbrev pub seen : List Bytes → Reads → Reads → Sunk → Sunk → Sunk → Sunk → Status → Seen
seen ws before after out out' err err' result = record { words = ws; before = before; after = after; out_before = out; out_after = out'; err_before = err; err_after = err'; status = result }

-- the names of a command's texts: five words after the first, or one of a formula that is to be solved, or all of fewer
abbrev pub names_of : List Bytes → List Bytes
names_of ws = take (most_texts (command_of ws)) (drop 1 ws)

-- a verify command
abbrev pub IsVerify : Option Command → Type 0
IsVerify k = (budget : ℕ) × (paths : ℕ) × (k ≡ Some (Verify budget paths))

-- a check command
abbrev pub IsCheck : Option Command → Type 0
IsCheck k = k ≡ Some Check

-- a sat command
abbrev pub IsSat : Option Command → Type 0
IsSat k = (budget : ℕ) × (k ≡ Some (Sat budget))

-- another command
abbrev pub IsOther : Option Command → Type 0
IsOther None = ⊥
IsOther (Some (Verify budget paths)) = ⊥
IsOther (Some Check) = ⊥
IsOther (Some (Sat budget)) = ⊥
IsOther (Some _) = Unit {0}

-- what is known of the verification of five texts, whatever it answers
pub record IsVerified (t : FiveTexts) (r : Result Verdict VerifyFault) : Type 0 where
  pub agree : r ≡ Ok Yes → (p : Parts) × Means t p × Agree (device p)
  pub closed : r ≡ Ok Yes → (p : Parts) × Means t p × AllHold p
  pub yes : (p : Parts) → Means t p → AllHold p → (r ≡ Ok Yes) ⊎ (r ≡ Err refusal.Memory)
  pub judged : IfOk r (λ v. (p : Parts) × Means t p × Decides p v)
  pub meant : (p : Parts) → Means t p → IfErr r (λ f. f ≡ refusal.Memory)
  pub one_meaning : (p q : Parts) → Means t p → Means t q → p ≡ q
  pub refused : IfErr r (OrMemory (FirstFault t))
  pub first_fault : (f : VerifyFault) → FirstFault t f → (r ≡ Err f) ⊎ (r ≡ Err refusal.Memory)

-- the outcome of a verification
abbrev pub outcome_of : Result Verdict VerifyFault → Outcome
outcome_of (Ok v) = Judged v
outcome_of (Err (refusal.Text letter why)) = Text letter (OfDevice why)
outcome_of (Err refusal.NotYet) = Unbuilt
outcome_of (Err refusal.Memory) = Memory

-- this is said of a list of five texts
abbrev pub OfFive : (FiveTexts → Type 0) → List Bytes → Type 0
OfFive said ts = (t : FiveTexts) × (ts ≡ t.c ∷ t.s ∷ t.d ∷ t.e ∷ t.h ∷ []) × said t

-- the outcome is that of the verification of five texts
abbrev pub VerifiesTo : Outcome → List Bytes → Type 0
VerifiesTo o = OfFive (λ t. (r : Result Verdict VerifyFault) × (o ≡ outcome_of r) × IsVerified t r)

-- Why a run of a command comes to an outcome. Of one that is built, a read was refused, or the texts were read and verified, checked or solved.
abbrev pub Because : Option Command → List Bytes → Reads → Reads → Outcome → Type 0
Because None names before after o = (o ≡ NoCommand) × (after ≡ before)
Because (Some (Verify budget paths)) names before after o =
    RefusesRead (Verify budget paths) names before after o ⊎ OfTexts (VerifiesTo o) names before after
Because (Some Check) names before after o = RefusesRead Check names before after o ⊎ OfTexts (ChecksTexts o) names before after
Because (Some (Sat budget)) names before after o =
    RefusesRead (Sat budget) names before after o ⊎ OfTexts (SolvesTexts budget o) names before after
Because (Some _) names before after o = (o ≡ Unbuilt) × (after ≡ before)

-- The status of a run, by what it did to the shelf and the sinks: a text was put on `out` and one on `err`, or a put failed or memory was wanting, which has a status of its own.
abbrev pub Ends : Seen → Type 0
Ends s =
    (o : Outcome) × Because (command_of s.words) (names_of s.words) s.before s.after o
    × Delivers (to_out o) (to_err (names_of s.words) o) (status_of o) s.status s.out_before s.out_after s.err_before s.err_after
