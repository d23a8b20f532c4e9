use Rattle.std.proofs.Common.{◌≡◌, ◌≤◌, ◌+◌, length}
use Rattle.knox_text.specs.Lines.{lines}
use Rattle.btor_read.specs.TextLines.{text_lines_from}
use Rattle.btor_read.specs.Meaning.{last_number}
use Rattle.btor_read.specs.Reading.{read_behind, lines_or_fault}
use Rattle.btor_read.proofs.reading.read.Given as goal

abbrev pub invariant-loop-cut : goal.invariant-loop-cut
invariant-loop-cut l = record {
  room : l.at + length l.rest ≤ 67108864;
  whole : read_behind l.draft.lines (text_lines_from (l.at + 1) (lines l.rest)) ≡ lines_or_fault l.text;
  last : l.last ≡ last_number l.draft.lines;
}

abbrev pub decreases-loop-cut : goal.decreases-loop-cut
decreases-loop-cut l = length l.rest
