use Rattle.term_graph.proofs.graph.Graph.+product.Given as goal

abbrev pub decreases-product : goal.decreases-product
decreases-product l = l.left
