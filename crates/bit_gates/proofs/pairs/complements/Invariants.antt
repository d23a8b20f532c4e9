use Rattle.std.proofs.Common.{◌≡◌, map, take}
use Rattle.bit_gates.specs.Gates.{opposite}
use Rattle.bit_gates.proofs.pairs.complements.Given as goal

abbrev pub invariant-loop-i : goal.invariant-loop-i
invariant-loop-i l = l.out.items ≡ map opposite (take l.i l.a)
