use Rattle.term_graph.proofs.ChainLemmas.{gives-opposite}
use Rattle.term_graph.proofs.graph.Graph.scaled.Goals as goal

pub returns-then-value-clause-value : goal.returns-then-value-clause-value
returns-then-value-clause-value c = gives-opposite c.args.self.now c.factored.new.self c.plain_un.new.self c.args.m c.in_ok-s.s c.in_ok-t.t c.args.c c.op1-opposite.result c.op1-opposite.ensures c.value-2.ensures.word c.requires.same c.in_ok-s.ensures.value c.in_ok-t.ensures.value
