use Rattle.std.proofs.Common.{◌≡◌, ◌++◌, map, length}
use Rattle.circuit_nodes.specs.Needs.{moved_arg}
use Rattle.circuit_nodes.proofs.packing.move_args.Given as goal

abbrev pub invariant-loop-arg : goal.invariant-loop-arg
invariant-loop-arg l = l.made ++ map (moved_arg l.places) l.left ≡ map (moved_arg l.places) l.args

abbrev pub decreases-loop-arg : goal.decreases-loop-arg
decreases-loop-arg l = length l.left
