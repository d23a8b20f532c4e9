use Rattle.term_graph.proofs.ChainLemmas.{multiple-once}
use Rattle.term_graph.proofs.graph.Graph.unsigned.Goals as goal

pub returns-in-None : goal.returns-in-None
returns-in-None c = rw (c.word_or.ensures, c.width.ensures.width) (multiple-once c.args.self.now c.args.t c.requires)
