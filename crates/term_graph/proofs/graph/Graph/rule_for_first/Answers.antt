use Rattle.std.proofs.Common.{rules, ◌≡◌}
use Rattle.term_graph.specs.Kept.{IsAlways}
use Rattle.term_graph.specs.Value.{width_of}
use Rattle.term_graph.proofs.BecomeLemmas.{first-becomes}
use Rattle.term_graph.proofs.graph.Graph.rule_for_first.Goals as goal

pub returns : goal.returns
returns c =
    let is : IsAlways c.args.self.now c.args.a c.in_ok-c.c = c.in_ok-c.ensures in
    let same : c.in_ok-c.c.width ≡ width_of c.args.self.now c.args.b = search rules in
    rw c.first_rule.ensures (first-becomes c.args.self.now c.args.o c.args.a c.args.b c.in_ok-c.c is same c.requires.fits)
