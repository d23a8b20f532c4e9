-- What a run has to say, and the status that then comes.
use Rattle.std.specs.Prelude.{ℕ, List, [], slice_index_or}
use Rattle.knox_run.specs.declared.status.Status.TheVariants as status
use Rattle.sat_core.specs.declared.answering.Solved.TheVariants as solved
use Rattle.knox_run.specs.Words.{Bytes, Status, Yes, Undecided, TooWide, Verified, Rejected, NoEmptyClause}
use Rattle.knox_run.specs.Words.{Outcome, NoCommand, Unbuilt, Unread, Text, Judged, Checked, Solved, Memory}
use Rattle.knox_run.specs.Lines.{usage_line, not_yet_line, cannot_read_line, text_line, check_line, verdict_lines}
use Rattle.knox_run.specs.Solving.{solved_lines}

-- the number that the program ends with
abbrev pub number_of : Status → ℕ
number_of status.Yes = 0
number_of status.Done = 0
number_of status.No = 1
number_of status.Undecided = 2
number_of status.Spent = 3
number_of status.Text = 5
number_of status.Usage = 6
number_of status.ReadFault = 7
number_of status.WriteFault = 8
number_of status.Memory = 9
number_of status.TooWide = 10
number_of status.NotYet = 11

-- the status of an outcome
abbrev pub status_of : Outcome → Status
status_of NoCommand = status.Usage
status_of Unbuilt = status.NotYet
status_of (Unread which) = status.ReadFault
status_of (Text letter why) = status.Text
status_of (Judged Yes) = status.Yes
status_of (Judged (Undecided hint choices)) = status.Undecided
status_of (Judged (TooWide hint bits)) = status.TooWide
status_of (Checked Verified) = status.Done
status_of (Checked (Rejected number why)) = status.No
status_of (Checked NoEmptyClause) = status.No
status_of (Solved (solved.Sat a)) = status.Done
status_of (Solved (solved.Unsat d)) = status.Done
status_of (Solved (solved.Spent d)) = status.Spent
status_of Memory = status.Memory

-- what is written to `out`: a verdict, how a check ended, or what a formula comes to
abbrev pub to_out : Outcome → Bytes
to_out (Judged verdict) = verdict_lines verdict
to_out (Checked end) = check_line end
to_out (Solved answer) = solved_lines answer
to_out _ = []

-- what is written to `err`, where the command has texts of these names
abbrev pub to_err : List Bytes → Outcome → Bytes
to_err names NoCommand = usage_line
to_err names Unbuilt = not_yet_line
to_err names (Unread which) = cannot_read_line (slice_index_or names which [])
to_err names (Text letter why) = text_line letter why
to_err names _ = []
