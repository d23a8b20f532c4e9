use Rattle.std.proofs.Common.{rules, ◌≡◌, true}
use Rattle.term_graph.specs.Chains.{links}
use Rattle.term_graph.specs.declared.chain.Chain.TheVariants.{Sum}
use Rattle.term_graph.proofs.ChainLemmas.{splits-linked}
use Rattle.term_graph.proofs.graph.Graph.before_last.Goals as goal

pub returns-in-Bin : goal.returns-in-Bin
returns-in-Bin c =
    let linked : links Sum c.in-Bin.o ≡ true = search rules in
    (splits-linked c.args.self.now Sum c.args.a c.in-Bin.x _ c.in-Bin.o c.in-Bin.ensures.graph.built c.in-Bin.ensures.node c.requires linked).first
