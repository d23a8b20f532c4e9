use Rattle.bit_gates.specs.Grown.{Grows}
use Rattle.bit_gates.specs.Sums.{Adds}
use Rattle.bit_gates.proofs.sums.add.Given as goal

abbrev pub invariant-loop-i : goal.invariant-loop-i
invariant-loop-i l = record {
  grows : Grows l.fn.gates l.gates;
  adds : Adds l.fn.gates l.a l.b l.fn.start l.i l.gates l.carry l.out.items;
}
