use Rattle.term_graph.proofs.ChainLemmas.{gives-left_shift}
use Rattle.term_graph.proofs.graph.Graph.left_shift.Goals as goal

pub returns-in-Some-clause-value : goal.returns-in-Some-clause-value
returns-in-Some-clause-value c = gives-left_shift c.args.self.now c.shifted.new.self c.args.a c.args.b c.in_ok-t.t c.in-Some.c c.in-Some.ensures c.in_ok-t.ensures.value
