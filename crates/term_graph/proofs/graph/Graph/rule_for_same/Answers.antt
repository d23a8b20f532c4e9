use Rattle.std.proofs.Common.{rules, ◌≡◌}
use Rattle.term_graph.proofs.BecomeLemmas.{same-becomes}
use Rattle.term_graph.proofs.graph.Graph.rule_for_same.Goals as goal

pub returns : goal.returns
returns c =
    let same : c.args.a ≡ c.args.b = search rules in
    rw (c.same_rule.ensures, c.width.ensures.width) (same-becomes c.args.self.now c.args.o c.args.a c.args.b same c.requires.fits)
