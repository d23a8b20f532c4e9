use Rattle.knox_words.specs.declared.op.Op1.TheVariants.{Not}
use Rattle.term_graph.proofs.ChainLemmas.{gives-operand, gives-itself}
use Rattle.term_graph.proofs.graph.Graph.closed.Goals as goal

pub returns-in-Some-clause-value : goal.returns-in-Some-clause-value
returns-in-Some-clause-value c = gives-operand c.args.self.now c.plain_un.new.self Not c.args.t c.in-Some.y c.in_ok-s.s c.in-Some.ensures c.in_ok-s.ensures.value

pub returns-clause-value : goal.returns-clause-value
returns-clause-value c = gives-itself c.args.self.now c.args.t c.requires
