use Rattle.term_graph.proofs.ChainLemmas.{gives-shifted, made-alike, power-width}
use Rattle.term_graph.proofs.graph.Graph.shifted.Goals as goal

pub multiplied-requires-clause-same : goal.multiplied-requires-clause-same
multiplied-requires-clause-same c = made-alike c.args.self.now c.word.new.self c.args.a c.in_ok-f.f c.op2_or-power.result c.word.ensures.kept c.requires.within (rw (c.op2_or-power.ensures, c.word_or.ensures, c.width.ensures.width) (power-width c.args.self.now c.args.a c.args.c c.requires.same)) c.in_ok-f.ensures.value

pub returns-clause-value : goal.returns-clause-value
returns-clause-value c = gives-shifted c.args.self.now c.word.new.self c.multiplied.new.self c.args.a c.in_ok-t.t c.word.ensures.kept c.requires.within c.in_ok-f.f c.args.c c.requires.same (rw (c.op2_or-power.ensures, c.word_or.ensures, c.width.ensures.width) at c.in_ok-f.ensures.value) c.in_ok-t.ensures.value
