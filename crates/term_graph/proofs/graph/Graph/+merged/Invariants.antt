use Rattle.term_graph.proofs.graph.Graph.+merged.Given as goal

abbrev pub decreases-merged : goal.decreases-merged
decreases-merged l = l.left
