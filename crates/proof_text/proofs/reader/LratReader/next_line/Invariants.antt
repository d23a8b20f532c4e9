use Rattle.std.proofs.Common.{◌≡◌, ◌≤◌, ◌+◌, length}
use Rattle.knox_text.specs.Lines.{lines}
use Rattle.proof_text.specs.Lrat.{lines_of}
use Rattle.proof_text.specs.Unread.{lines_left}
use Rattle.proof_text.specs.Inside.{unread_of, HasRoom}
use Rattle.proof_text.proofs.reader.LratReader.next_line.Given as goal

-- the reader stands as before; what is left means what its text means, and its lines have room
abbrev pub invariant-loop-cut : goal.invariant-loop-cut
invariant-loop-cut l = record {
  still : unread_of l.self-inside ≡ l.fn.self;
  kept : HasRoom l.self-inside;
  same : lines_left l.fn.self ≡ lines_of l.number (lines l.rest);
  counted : 1 ≤ l.number;
  room : l.number + length l.rest ≤ 67108865;
  within : length l.rest ≤ length l.fn.self.text;
}

abbrev pub decreases-loop-cut : goal.decreases-loop-cut
decreases-loop-cut l = length l.rest
