use Rattle.term_graph.specs.declared.chain.Chain.TheVariants.{Sum}
use Rattle.term_graph.proofs.ChainLemmas.{gives-worded}
use Rattle.term_graph.proofs.graph.Graph.raised.Goals as goal

pub returns-clause-value : goal.returns-clause-value
returns-clause-value c = gives-worded c.args.self.now c.word.new.self c.sum.new.self c.args.a c.in_ok-t.t c.word.ensures.kept c.requires.within Sum c.in_ok-f.f c.args.c c.in_ok-f.ensures.value c.in_ok-t.ensures.value
