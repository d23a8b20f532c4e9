use Rattle.std.proofs.Common.{rules, ◌≡◌, true}
use Rattle.term_graph.specs.Rules.{is_commutative}
use Rattle.term_graph.proofs.BecomeLemmas.{gives-commuted}
use Rattle.term_graph.proofs.graph.Graph.plain_bin.Goals as goal

pub returns-then-are_turned-clause-value : goal.returns-then-are_turned-clause-value
returns-then-are_turned-clause-value c =
    let commutes : is_commutative c.args.o ≡ true = search rules in
    gives-commuted c.args.self.now c.ordered.new.self c.in_ok-t.t c.args.a c.args.b c.args.o commutes c.requires.fits c.in_ok-t.ensures.value
