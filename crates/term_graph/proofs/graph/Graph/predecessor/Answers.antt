use Rattle.term_graph.proofs.ChainLemmas.{gives-predecessor, ones-width}
use Rattle.term_graph.proofs.graph.Graph.predecessor.Goals as goal

pub raised-requires-clause-same : goal.raised-requires-clause-same
raised-requires-clause-same c = rw (c.op1-ones.ensures, c.word_or.ensures, c.width.ensures.width) (ones-width c.args.self.now c.args.a)

pub returns-clause-value : goal.returns-clause-value
returns-clause-value c = gives-predecessor c.args.self.now c.raised.new.self c.args.a c.in_ok-t.t (rw (c.op1-ones.ensures, c.word_or.ensures, c.width.ensures.width) at c.in_ok-t.ensures.value)
