use Rattle.std.proofs.Common.{rules, ◌≡◌, true}
use Rattle.term_graph.specs.Chains.{same_sign}
use Rattle.term_graph.proofs.ChainLemmas.{operand-node}
use Rattle.term_graph.proofs.graph.Graph.operand.Goals as goal

pub returns-in-Un : goal.returns-in-Un
returns-in-Un c =
    let same : same_sign c.args.o c.in-Un.p ≡ true = search rules in
    operand-node c.args.self.now c.args.o c.in-Un.p c.args.t c.in-Un.m c.in-Un.ensures.graph.built c.in-Un.ensures.node c.requires same
