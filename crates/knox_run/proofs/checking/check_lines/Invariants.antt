use Rattle.std.proofs.Common.{◌≡◌, length, None}
use Rattle.knox_run.specs.Words.{lines_left}
use Rattle.knox_run.proofs.CheckSteps.{end_left}
use Rattle.knox_run.proofs.checking.check_lines.Given as goal

abbrev pub invariant-loop-refutation : goal.invariant-loop-refutation
invariant-loop-refutation l =
    (end_left None l.fn.refutation (lines_left l.fn.reader) ≡ end_left l.refused l.refutation (lines_left l.reader)) × (l.refutation.cnf ≡ l.fn.refutation.cnf)

abbrev pub decreases-loop-refutation : goal.decreases-loop-refutation
decreases-loop-refutation l = length l.reader.text
