use Rattle.term_graph.proofs.ChainLemmas.{gives-difference}
use Rattle.term_graph.proofs.graph.Graph.difference.Goals as goal

pub returns-clause-value : goal.returns-clause-value
returns-clause-value c = gives-difference c.args.self.now c.negated.new.self c.sum.new.self c.args.a c.args.b c.in_ok-n.n c.in_ok-t.t c.negated.ensures.kept c.requires.first c.requires.same c.in_ok-n.ensures.value c.in_ok-t.ensures.value
