use Rattle.term_graph.proofs.ChainLemmas.{gives-negated, made-alike, ones-width}
use Rattle.term_graph.proofs.graph.Graph.negated.Goals as goal

pub returns-clause-value : goal.returns-clause-value
returns-clause-value c = gives-negated c.args.self.now c.word.new.self c.multiplied.new.self c.args.a c.in_ok-t.t c.word.ensures.kept c.requires c.in_ok-ones.ones (rw (c.op1.ensures, c.word_or.ensures, c.width-width.ensures.width) at c.in_ok-ones.ensures.value) c.in_ok-t.ensures.value

pub multiplied-requires-clause-same : goal.multiplied-requires-clause-same
multiplied-requires-clause-same c = made-alike c.args.self.now c.word.new.self c.args.a c.in_ok-ones.ones c.op1.result c.word.ensures.kept c.requires (rw (c.op1.ensures, c.word_or.ensures, c.width-width.ensures.width) (ones-width c.args.self.now c.args.a)) c.in_ok-ones.ensures.value
