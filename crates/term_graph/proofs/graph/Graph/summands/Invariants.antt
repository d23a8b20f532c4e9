use Rattle.std.proofs.Common.{◌<◌, length}
use Rattle.term_graph.proofs.graph.Graph.summands.Given as goal

abbrev pub invariant-loop-found : goal.invariant-loop-found
invariant-loop-found l = l.rest < length l.self
