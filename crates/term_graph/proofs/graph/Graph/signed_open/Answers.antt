use Rattle.term_graph.proofs.ChainLemmas.{gives-opened_one}
use Rattle.term_graph.proofs.graph.Graph.signed_open.Goals as goal

pub returns-clause-value : goal.returns-clause-value
returns-clause-value c = gives-opened_one c.args.self.now c.opened.new.self c.signed.new.self c.args.o c.args.a c.in_ok-x.x c.in_ok-t.t c.in_ok-x.ensures.value c.in_ok-t.ensures.value
