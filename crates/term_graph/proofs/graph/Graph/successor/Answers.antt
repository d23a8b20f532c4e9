use Rattle.term_graph.proofs.ChainLemmas.{gives-successor, one-width}
use Rattle.term_graph.proofs.graph.Graph.successor.Goals as goal

pub raised-requires-clause-same : goal.raised-requires-clause-same
raised-requires-clause-same c = rw (c.word_or-one.ensures, c.width.ensures.width) (one-width c.args.self.now c.args.a)

pub returns-clause-value : goal.returns-clause-value
returns-clause-value c = gives-successor c.args.self.now c.raised.new.self c.args.a c.in_ok-t.t (rw (c.word_or-one.ensures, c.width.ensures.width) at c.in_ok-t.ensures.value)
