use Rattle.term_graph.proofs.ChainLemmas.{gives-closed}
use Rattle.term_graph.proofs.graph.Graph.un.Goals as goal

pub returns-clause-value : goal.returns-clause-value
returns-clause-value c = gives-closed c.args.self.now c.signed_open.new.self c.closed.new.self _ c.in_ok-t.t c.in_ok-s.s c.in_ok-t.ensures.value c.in_ok-s.ensures.value
