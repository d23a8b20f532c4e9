use Rattle.term_graph.proofs.ChainLemmas.{steps-after, steps-before, steps-alike}
use Rattle.term_graph.proofs.graph.Graph.step.Goals as goal

pub returns-in-Some-clause-steps : goal.returns-in-Some-clause-steps
returns-in-Some-clause-steps c = steps-alike c.args.self.now c.args.k c.args.a c.args.b c.requires.same c.scaled.new.self c.split-x.result.0 c.split-x.result.1 c.split-y.result.0 c.split-y.result.1 c.in-Some.joint.term c.in_ok-last.last c.in-Some.joint.word c.split-x.ensures c.split-y.ensures c.in-Some.ensures c.scaled.ensures.kept c.in_ok-last.ensures.value

pub returns-then-goes_behind-clause-steps : goal.returns-then-goes_behind-clause-steps
returns-then-goes_behind-clause-steps c = steps-after c.args.self.now c.args.k c.args.a c.args.b c.requires.same c.split-x.result.0 c.split-x.result.1 c.requires.second c.split-x.ensures

pub returns-clause-steps : goal.returns-clause-steps
returns-clause-steps c = steps-before c.args.self.now c.args.k c.args.a c.args.b c.requires.same c.split-y.result.0 c.split-y.result.1 c.requires.first c.split-y.ensures
