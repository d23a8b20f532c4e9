use Rattle.std.proofs.Common.{◌≡◌, length}
use Rattle.knox_text.specs.Lines.{lines}
use Rattle.proof_text.specs.Lrat.{lines_of}
use Rattle.proof_text.specs.Unread.{lines_left}
use Rattle.proof_text.proofs.LratLemmas.{after}
use Rattle.proof_text.proofs.lrat.read_lrat.Given as goal

-- the lines so far, and those that are left, are those of the text
abbrev pub invariant-loop-lines : goal.invariant-loop-lines
invariant-loop-lines l = lines_of 1 (lines l.bytes) ≡ after l.lines (lines_left l.reader)

abbrev pub decreases-loop-lines : goal.decreases-loop-lines
decreases-loop-lines l = length l.reader.text
