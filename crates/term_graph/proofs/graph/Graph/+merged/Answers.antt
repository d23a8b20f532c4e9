use Rattle.term_graph.proofs.ChainLemmas.{gives-merged, keeps-through}
use Rattle.term_graph.proofs.graph.Graph.+merged.Goals as goal

pub returns-clause-value : goal.returns-clause-value
returns-clause-value t c = gives-merged c.args.self.now c.step.new.self c.merged.new.self c.appended.new.self c.args.k c.args.a c.args.b c.in_ok-step.step.first c.in_ok-step.step.second c.in_ok-step.step.last c.in_ok-rest.rest c.in_ok-t.t c.in_ok-step.ensures.steps c.merged.ensures.kept c.in_ok-rest.ensures.value c.in_ok-t.ensures.value

pub returns-in_err-t-clause-kept : goal.returns-in_err-t-clause-kept
returns-in_err-t-clause-kept t c = keeps-through c.args.self.now c.step.new.self c.merged.new.self c.appended.new.self c.step.ensures.kept c.merged.ensures.kept c.appended.ensures.kept

pub returns-clause-kept : goal.returns-clause-kept
returns-clause-kept t c = keeps-through c.args.self.now c.step.new.self c.merged.new.self c.appended.new.self c.step.ensures.kept c.merged.ensures.kept c.appended.ensures.kept
