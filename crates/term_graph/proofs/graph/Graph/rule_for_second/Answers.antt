use Rattle.std.proofs.Common.{rules, ◌≡◌}
use Rattle.term_graph.specs.Kept.{IsAlways}
use Rattle.term_graph.specs.Value.{width_of}
use Rattle.term_graph.proofs.BecomeLemmas.{second-becomes}
use Rattle.term_graph.proofs.graph.Graph.rule_for_second.Goals as goal

pub returns : goal.returns
returns c =
    let is : IsAlways c.args.self.now c.args.b c.in_ok-c.c = c.in_ok-c.ensures in
    let same : c.in_ok-c.c.width ≡ width_of c.args.self.now c.args.a = search rules in
    rw c.second_rule.ensures (second-becomes c.args.self.now c.args.o c.args.a c.args.b c.in_ok-c.c is same c.requires.fits)
