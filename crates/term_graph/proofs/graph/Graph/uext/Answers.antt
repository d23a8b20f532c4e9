use Rattle.std.proofs.Common.{rules, ◌≡◌}
use Rattle.term_graph.proofs.ExtendLemmas.{gives-uext_none}
use Rattle.term_graph.proofs.graph.Graph.uext.Goals as goal

pub returns-then-n-eq0-clause-value : goal.returns-then-n-eq0-clause-value
returns-then-n-eq0-clause-value c =
    let none : c.args.n ≡ 0 = search rules in
    gives-uext_none c.args.self.now c.args.a c.args.n c.requires.within none
