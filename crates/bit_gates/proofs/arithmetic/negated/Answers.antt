use Rattle.std.proofs.Common.{false}
use Rattle.bit_gates.proofs.ArithmeticLemmas.{gives-negated, length-constant, within-constants}
use Rattle.bit_gates.proofs.arithmetic.negated.Goals as goal

pub difference-requires-clause-lengths : goal.difference-requires-clause-lengths
difference-requires-clause-lengths c = rw c.as_slice.ensures.value (length-constant false c.args.a.now c.in_ok-zeros.zeros.items c.in_ok-zeros.ensures)

pub difference-requires-clause-a : goal.difference-requires-clause-a
difference-requires-clause-a c = rw c.as_slice.ensures.value (within-constants c.args.gates.now false c.args.a.now c.in_ok-zeros.zeros.items c.in_ok-zeros.ensures c.requires)

pub returns-clause-value : goal.returns-clause-value
returns-clause-value c = gives-negated c.args.gates.now c.difference.new.gates c.args.a.now c.in_ok-zeros.zeros.items c.in_ok-bits.bits.items c.in_ok-zeros.ensures (rw c.as_slice.ensures.value at c.in_ok-bits.ensures.value)
