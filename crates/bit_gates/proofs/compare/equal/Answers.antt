use Rattle.bit_gates.proofs.CompareLemmas.{equal-tells}
use Rattle.bit_gates.proofs.compare.equal.Goals as goal

pub returns-clause-value : goal.returns-clause-value
returns-clause-value c = equal-tells c.args.gates.now c.pairwise.new.gates c.none_of.new.gates c.args.a.now c.args.b.now c.in_ok-apart.apart.items c.in_ok-none.none c.requires.lengths c.in_ok-apart.ensures.bits (rw c.as_slice.ensures.value at c.in_ok-none.ensures.value)
