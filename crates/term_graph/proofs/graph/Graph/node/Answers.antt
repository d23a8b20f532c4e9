use Rattle.std.proofs.Common.{subst}
use Rattle.term_graph.specs.Built.{IsGraph}
use Rattle.term_graph.proofs.graph.Graph.node.Goals as goal

pub returns-clause-graph : goal.returns-clause-graph
returns-clause-graph c =
    let graph : IsGraph c.self.inside.nodes.keys = record { built = c.self.invariant.built; different = c.as_slice-nodes.ensures.unique } in
    subst IsGraph c.self.view_is graph
