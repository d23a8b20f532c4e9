use Rattle.std.proofs.Common.{◌≡◌, ◌≤◌, ◌+◌, length}
use Rattle.knox_text.specs.Lines.{lines}
use Rattle.proof_text.specs.Dimacs.{with_lines}
use Rattle.proof_text.proofs.dimacs.take_lines.Given as goal

-- the lines that are left give what all give, and their numbers have room
abbrev pub invariant-loop-cut : goal.invariant-loop-cut
invariant-loop-cut l = record {
  told : with_lines l.initial.draft 1 (lines l.text) ≡ with_lines l.draft l.number (lines l.rest);
  counted : 1 ≤ l.number;
  room : l.number + length l.rest ≤ 67108865;
}

abbrev pub decreases-loop-cut : goal.decreases-loop-cut
decreases-loop-cut l = length l.rest
