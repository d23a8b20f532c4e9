use Rattle.term_graph.proofs.ChainLemmas.{units-made}
use Rattle.term_graph.proofs.graph.Graph.units.Goals as goal

pub returns-clause-units : goal.returns-clause-units
returns-clause-units c = units-made c.word.new.self c.word-2.new.self c.args.width c.in_ok-zero.zero c.in_ok-one.one c.requires.wide c.requires.narrow (rw c.word_or.ensures at c.in_ok-zero.ensures.value) c.word-2.ensures.kept (rw c.word_or-2.ensures at c.in_ok-one.ensures.value)
