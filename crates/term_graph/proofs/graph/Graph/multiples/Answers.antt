use Rattle.term_graph.proofs.ChainLemmas.{gives-multiples}
use Rattle.term_graph.proofs.graph.Graph.multiples.Goals as goal

pub returns-clause-value : goal.returns-clause-value
returns-clause-value c = gives-multiples c.args.self.now c.merged.new.self c.scaled.new.self c.args.a c.args.b c.multiple-c.result.1 c.multiple-d.result.1 c.in_ok-p.p c.in_ok-t.t c.multiple-c.result.0 c.multiple-d.result.0 c.op2_or.result c.op2_or.ensures c.multiple-c.ensures c.multiple-d.ensures c.requires.same c.in_ok-p.ensures.value c.in_ok-t.ensures.value
