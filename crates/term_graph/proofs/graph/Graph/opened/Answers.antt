use Rattle.knox_words.specs.declared.op.Op1.TheVariants.{Not}
use Rattle.term_graph.proofs.ChainLemmas.{gives-operand, gives-itself}
use Rattle.term_graph.proofs.graph.Graph.opened.Goals as goal

pub returns-in-Some-clause-value : goal.returns-in-Some-clause-value
returns-in-Some-clause-value c = gives-operand c.args.self.now c.complemented.new.self Not c.args.a c.in-Some.y c.in_ok-t.t c.in-Some.ensures c.in_ok-t.ensures.value

pub returns-clause-value : goal.returns-clause-value
returns-clause-value c = gives-itself c.args.self.now c.args.a c.requires
