use Rattle.std.proofs.Common.{false}
use Rattle.bit_gates.proofs.ArithmeticLemmas.{gives-incremented, length-constant_behind, within-constants}
use Rattle.bit_gates.proofs.arithmetic.incremented.Goals as goal

pub add-requires-clause-lengths : goal.add-requires-clause-lengths
add-requires-clause-lengths c = rw c.as_slice.ensures.value (length-constant_behind false c.args.a.now c.in_ok-zeros.zeros.items c.in_ok-zeros.ensures)

pub add-requires-clause-b : goal.add-requires-clause-b
add-requires-clause-b c = rw c.as_slice.ensures.value (within-constants c.args.gates.now false c.args.a.now c.in_ok-zeros.zeros.items c.in_ok-zeros.ensures c.requires)

pub returns-clause-value : goal.returns-clause-value
returns-clause-value c = gives-incremented c.args.gates.now c.add.new.gates c.args.a.now c.in_ok-zeros.zeros.items c.in_ok-bits.bits.items c.in_ok-zeros.ensures (rw c.as_slice.ensures.value at c.in_ok-bits.ensures.sum)
