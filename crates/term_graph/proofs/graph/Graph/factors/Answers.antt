use Rattle.std.proofs.Common.{rules, ◌≡◌, true}
use Rattle.term_graph.specs.Chains.{links, Splits}
use Rattle.term_graph.specs.declared.chain.Chain.TheVariants.{Product}
use Rattle.term_graph.proofs.ChainLemmas.{splits-linked, multiple-linked}
use Rattle.term_graph.proofs.graph.Graph.factors.Goals as goal

pub constant-requires : goal.constant-requires
constant-requires c =
    let linked : links Product c.in-Bin.o ≡ true = search rules in
    (splits-linked c.args.self.now Product c.args.t c.in-Bin.c c.in-Bin.m c.in-Bin.o c.in-Bin.ensures.graph.built c.in-Bin.ensures.node c.requires linked).first

pub returns-in_ok-c-in-Bin : goal.returns-in_ok-c-in-Bin
returns-in_ok-c-in-Bin c =
    let linked : links Product c.in-Bin.o ≡ true = search rules in
    let parts : Splits c.args.self.now Product c.args.t c.in-Bin.c c.in-Bin.m = splits-linked c.args.self.now Product c.args.t c.in-Bin.c c.in-Bin.m c.in-Bin.o c.in-Bin.ensures.graph.built c.in-Bin.ensures.node c.requires linked in
    multiple-linked c.args.self.now c.args.t c.in-Bin.c c.in-Bin.m c.in_ok-c-in-Bin.c parts c.in_ok-c-in-Bin.ensures
