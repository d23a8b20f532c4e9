use Rattle.term_graph.proofs.BuiltLemmas.{kept-none}
use Rattle.term_graph.proofs.graph.Graph.new.Goals as goal

pub invariant_of-result : goal.invariant_of-result
invariant_of-result c = kept-none _ _ _ c.new.ensures.empty c.new-2.ensures.items c.new-3.ensures.items
