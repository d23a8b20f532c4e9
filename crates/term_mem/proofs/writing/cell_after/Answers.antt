use Rattle.term_mem.proofs.WriteLemmas.{gives-cell_after}
use Rattle.term_mem.proofs.writing.cell_after.Goals as goal

pub returns-clause-value : goal.returns-clause-value
returns-clause-value c =
    gives-cell_after c.args.g.now c.word.new.self c.bin.new.self c.ite.new.self c.args.index c.in_ok-named.named c.in_ok-same.same c.args.word c.args.cell c.in_ok-t.t c.width-width.result c.args.number c.word_or.result c.word.ensures.kept c.bin.ensures.kept c.requires.index c.requires.word c.requires.cell c.requires.same c.width-width.ensures.width c.requires.number c.word_or.ensures c.in_ok-named.ensures.value c.in_ok-same.ensures.value c.in_ok-t.ensures.value
