use Rattle.term_graph.proofs.ChainLemmas.{gives-opened, fits-opened, keeps-through}
use Rattle.term_graph.proofs.graph.Graph.calculated_open.Goals as goal

pub calculated-requires-clause-fits : goal.calculated-requires-clause-fits
calculated-requires-clause-fits c = fits-opened c.args.self.now c.opened.new.self c.opened-2.new.self c.args.o c.args.a c.args.b c.in_ok-x.x c.in_ok-y.y c.opened.ensures.kept c.opened-2.ensures.kept c.requires.second c.in_ok-x.ensures.value c.in_ok-y.ensures.value c.requires.fits

pub returns-clause-value : goal.returns-clause-value
returns-clause-value c = gives-opened c.args.self.now c.opened.new.self c.opened-2.new.self c.calculated.new.self c.args.o c.args.a c.args.b c.in_ok-x.x c.in_ok-y.y c.in_ok-t.t c.opened.ensures.kept c.opened-2.ensures.kept c.requires.second c.in_ok-x.ensures.value c.in_ok-y.ensures.value c.in_ok-t.ensures.value

pub returns-clause-kept : goal.returns-clause-kept
returns-clause-kept c = keeps-through c.args.self.now c.opened.new.self c.opened-2.new.self c.calculated.new.self c.opened.ensures.kept c.opened-2.ensures.kept c.calculated.ensures.kept

pub returns-in_err-t-clause-kept : goal.returns-in_err-t-clause-kept
returns-in_err-t-clause-kept c = keeps-through c.args.self.now c.opened.new.self c.opened-2.new.self c.calculated.new.self c.opened.ensures.kept c.opened-2.ensures.kept c.calculated.ensures.kept
