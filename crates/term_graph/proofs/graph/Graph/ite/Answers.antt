use Rattle.term_graph.proofs.FoldLemmas.{gives-turned_choice}
use Rattle.term_graph.proofs.graph.Graph.ite.Goals as goal

pub returns-in-Some-clause-value : goal.returns-in-Some-clause-value
returns-in-Some-clause-value c = gives-turned_choice c.args.self.now c.nested.new.self c.in_ok-t.t c.args.c c.in-Some.d c.args.a c.args.b c.in-Some.ensures c.requires.bit c.requires.same c.in_ok-t.ensures.value
