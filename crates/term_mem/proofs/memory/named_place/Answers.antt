use Rattle.term_mem.proofs.CellLemmas.{names-place}
use Rattle.term_mem.proofs.memory.named_place.Goals as goal

pub returns : goal.returns
returns c = names-place c.args.g.now c.args.index c.value-number.result c.in-Word.w c.in-Word.ensures.graph.built c.in-Word.ensures.node c.value-number.ensures.word c.value-number.ensures.value
