use Rattle.std.proofs.Common.{◌≡◌, ◌++◌, length}
use Rattle.circuit_nodes.specs.Needs.{packed}
use Rattle.circuit_nodes.proofs.packing.pack.Given as goal

abbrev pub invariant-loop-need : goal.invariant-loop-need
invariant-loop-need l = l.made ++ packed l.places l.left l.rest ≡ packed l.places l.needs l.nodes

abbrev pub decreases-loop-need : goal.decreases-loop-need
decreases-loop-need l = length l.left
