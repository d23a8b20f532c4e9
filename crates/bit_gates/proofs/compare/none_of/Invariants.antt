use Rattle.std.proofs.Common.{not, take}
use Rattle.std.specs.List.{list_all}
use Rattle.bit_gates.specs.Grown.{Grows, Means}
use Rattle.bit_gates.specs.Words.{bits_at}
use Rattle.bit_gates.proofs.compare.none_of.Given as goal

abbrev pub invariant-loop-i : goal.invariant-loop-i
invariant-loop-i l = record {
  grows : Grows l.fn.gates l.gates;
  means : Means l.gates l.all (λ v. list_all not (take l.i (bits_at v l.fn.gates l.a)));
}
