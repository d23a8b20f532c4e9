use Rattle.std.proofs.Common.{◌≤◌, length, arith}
use Rattle.knox_text.specs.Lines.{lines}
use Rattle.knox_text.proofs.LineLemmas.{first_line_short}
use Rattle.proof_text.proofs.reader.LratReader.next_line.Goals as goal

pub read_line-requires : goal.read_line-requires
read_line-requires c =
    let short : length c.in-Some.cut.piece.now ≤ length c.loop-cut.rest.now = first_line_short c.loop-cut.rest.now c.in-Some.cut.piece.now (lines c.in-Some.cut.rest.now) c.in-Some.ensures.line in
    let room = c.loop-cut.invariant.room in
    let counted = c.loop-cut.invariant.counted in
    omega (arith, short, room, counted)
