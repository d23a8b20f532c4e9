use Rattle.term_graph.proofs.graph.Graph.+times.Given as goal

abbrev pub decreases-times : goal.decreases-times
decreases-times l = l.left
