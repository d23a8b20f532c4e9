use Rattle.std.proofs.Common.{◌≡◌, ◌≤◌, ◌+◌, ◌++◌, length}
use Rattle.circuit_nodes.specs.Needs.{places_from}
use Rattle.circuit_nodes.proofs.packing.places_of.Given as goal

abbrev pub invariant-loop-need : goal.invariant-loop-need
invariant-loop-need l = record {
  made : l.made ++ places_from l.count l.left ≡ places_from 0 l.needs;
  few : l.count + length l.left ≤ length l.needs;
}

abbrev pub decreases-loop-need : goal.decreases-loop-need
decreases-loop-need l = length l.left
