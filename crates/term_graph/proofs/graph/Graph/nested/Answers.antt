use Rattle.std.proofs.Common.{rules, ◌≡◌}
use Rattle.term_graph.proofs.NestLemmas.{gives-and, gives-or}
use Rattle.term_graph.proofs.graph.Graph.nested.Goals as goal

pub returns-then-place-clause-value : goal.returns-then-place-clause-value
returns-then-place-clause-value c =
    let same : c.in-Some.inner.second ≡ c.args.b = search rules in
    gives-and c.args.self.now c.args.c c.in-Some.inner.condition c.in-Some.inner.first c.in-Some.inner.second c.requires.bit c.joint.new.self c.in_ok-t.t c.args.a c.args.b c.in-Some.ensures same c.in_ok-t.ensures.value

pub returns-then-place-2-clause-value : goal.returns-then-place-2-clause-value
returns-then-place-2-clause-value c =
    let same : c.in-Some-arms.inner.first ≡ c.args.a = search rules in
    gives-or c.args.self.now c.args.c c.in-Some-arms.inner.condition c.in-Some-arms.inner.first c.in-Some-arms.inner.second c.requires.bit c.joint-then-place-2.new.self c.in_ok-t-2.t c.args.a c.args.b c.in-Some-arms.ensures same c.in_ok-t-2.ensures.value
