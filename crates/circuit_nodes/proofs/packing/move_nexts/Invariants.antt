use Rattle.std.proofs.Common.{◌≡◌, ◌++◌, map, length}
use Rattle.circuit_nodes.specs.Needs.{moved_next}
use Rattle.circuit_nodes.proofs.packing.move_nexts.Given as goal

abbrev pub invariant-loop-next : goal.invariant-loop-next
invariant-loop-next l = l.made ++ map (moved_next l.places) l.left ≡ map (moved_next l.places) l.nexts

abbrev pub decreases-loop-next : goal.decreases-loop-next
decreases-loop-next l = length l.left
