use Rattle.std.proofs.Common.{rules, ◌≡◌, true}
use Rattle.term_graph.specs.Rules.{undoes}
use Rattle.term_graph.proofs.FoldLemmas.{gives-undone}
use Rattle.term_graph.proofs.graph.Graph.undone.Goals as goal

pub returns-in-Un : goal.returns-in-Un
returns-in-Un c =
    let back : undoes c.args.o c.in-Un.inner ≡ true = search rules in
    gives-undone c.args.self.now c.args.a c.in-Un.x c.args.o c.in-Un.inner c.in-Un.ensures.graph.built c.in-Un.ensures.node c.requires back
