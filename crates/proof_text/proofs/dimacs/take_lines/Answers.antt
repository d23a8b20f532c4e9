use Rattle.std.proofs.Common.{◌≤◌, ◌∙◌, length, arith, subst, sym}
use Rattle.knox_text.specs.Lines.{lines}
use Rattle.proof_text.specs.Dimacs.{Takes}
use Rattle.knox_text.proofs.LineLemmas.{first_line_short}
use Rattle.proof_text.proofs.DimacsLemmas.{lines-more, lines-refused}
use Rattle.proof_text.proofs.dimacs.take_lines.Goals as goal

pub take_line-requires : goal.take_line-requires
take_line-requires c =
    let short : length c.in-Some.cut.piece.now ≤ length c.loop-cut.rest.now = first_line_short c.loop-cut.rest.now c.in-Some.cut.piece.now (lines c.in-Some.cut.rest.now) c.in-Some.ensures.line in
    let room = c.loop-cut.invariant.room in
    let counted = c.loop-cut.invariant.counted in
    omega (arith, short, room, counted)

pub loop-cut-preserved : goal.loop-cut-preserved
loop-cut-preserved c =
    let shorter = c.in-Some.ensures.shorter in
    let room = c.loop-cut.invariant.room in
    record {
      told = c.loop-cut.invariant.told ∙ lines-more c.loop-cut.draft c.take_line.new.draft c.loop-cut.number c.in-Some.cut.piece.now c.loop-cut.rest.now c.in-Some.cut.rest.now c.take_line.result c.in-Some.ensures.line c.take_line.ensures c.in-Ok.is;
      counted = omega arith;
      room = omega (arith, shorter, room);
    }

pub returns-in-Err : goal.returns-in-Err
returns-in-Err c =
    subst (Takes _ c.take_line.new.draft) (sym c.loop-cut.invariant.told)
    (lines-refused c.loop-cut.draft c.take_line.new.draft c.loop-cut.number c.in-Some.cut.piece.now c.loop-cut.rest.now c.in-Some.cut.rest.now c.take_line.result c.in-Err.fault c.in-Some.ensures.line c.take_line.ensures c.in-Err.is)
