use Rattle.term_graph.specs.declared.chain.Chain.TheVariants.{Product}
use Rattle.term_graph.proofs.ChainLemmas.{gives-worded}
use Rattle.term_graph.proofs.graph.Graph.factored.Goals as goal

pub returns-clause-value : goal.returns-clause-value
returns-clause-value c = gives-worded c.args.self.now c.word.new.self c.joined.new.self c.args.m c.in_ok-t.t c.word.ensures.kept c.requires.within Product c.in_ok-f.f c.args.c c.in_ok-f.ensures.value c.in_ok-t.ensures.value
