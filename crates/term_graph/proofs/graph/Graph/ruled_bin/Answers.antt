use Rattle.term_graph.proofs.FoldLemmas.{keeps-on, keeps-within}
use Rattle.term_graph.proofs.ChoiceLemmas.{gives-ruled, fits-ruled}
use Rattle.term_graph.proofs.graph.Graph.ruled_bin.Goals as goal

pub bin-requires-clause-second : goal.bin-requires-clause-second
bin-requires-clause-second c = keeps-within c.args.self.now c.apply.new.self c.args.x c.apply.ensures.kept c.requires.other

pub bin-requires-clause-fits : goal.bin-requires-clause-fits
bin-requires-clause-fits c = fits-ruled c.args.self.now c.apply.new.self c.args.c c.in_ok-d.d c.args.x c.args.o c.args.rule c.apply.ensures.kept c.requires.other c.in_ok-d.ensures.value c.requires.fits

pub returns-clause-kept : goal.returns-clause-kept
returns-clause-kept c = keeps-on c.args.self.now c.apply.new.self c.bin.new.self c.apply.ensures.kept c.bin.ensures.kept

pub returns-clause-value : goal.returns-clause-value
returns-clause-value c = gives-ruled c.args.self.now c.apply.new.self c.bin.new.self c.in_ok-t.t c.args.c c.in_ok-d.d c.args.x c.args.o c.args.rule c.apply.ensures.kept c.requires.other c.in_ok-d.ensures.value c.in_ok-t.ensures.value
