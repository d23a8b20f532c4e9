use Rattle.knox_text.proofs.LineLemmas.{not-empty, cut_line_is}
use Rattle.knox_text.proofs.lines.cut_line.Goals as goal

pub returns-clause-line : goal.returns-clause-line
returns-clause-line c = cut_line_is c.args.text.now c.behind_end.result.now c.line_length-end.result (not-empty _ c.args.text.now c.is_empty.ensures c.if-is_empty.false) c.line_length-end.ensures.value c.behind_end.ensures
