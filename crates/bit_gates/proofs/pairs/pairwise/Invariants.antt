use Rattle.bit_gates.specs.Grown.{Grows}
use Rattle.bit_gates.specs.Pairs.{Paired}
use Rattle.bit_gates.proofs.pairs.pairwise.Given as goal

abbrev pub invariant-loop-i : goal.invariant-loop-i
invariant-loop-i l = record {
  grows : Grows l.fn.gates l.gates;
  paired : Paired l.fn.gates l.p l.a l.b l.i l.gates l.out.items;
}
