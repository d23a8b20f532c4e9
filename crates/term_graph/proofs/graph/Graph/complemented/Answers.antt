use Rattle.term_graph.proofs.ChainLemmas.{gives-complemented}
use Rattle.term_graph.proofs.graph.Graph.complemented.Goals as goal

pub returns-clause-value : goal.returns-clause-value
returns-clause-value c = gives-complemented c.args.self.now c.negated.new.self c.predecessor.new.self c.args.y c.in_ok-n.n c.in_ok-t.t c.in_ok-n.ensures.value c.in_ok-t.ensures.value
