use Rattle.std.proofs.Common.{true}
use Rattle.bit_gates.proofs.ArithmeticLemmas.{gives-decremented, length-constant_behind, within-constants}
use Rattle.bit_gates.proofs.arithmetic.decremented.Goals as goal

pub sum-requires-clause-lengths : goal.sum-requires-clause-lengths
sum-requires-clause-lengths c = rw c.as_slice.ensures.value (length-constant_behind true c.args.a.now c.in_ok-ones.ones.items c.in_ok-ones.ensures)

pub sum-requires-clause-b : goal.sum-requires-clause-b
sum-requires-clause-b c = rw c.as_slice.ensures.value (within-constants c.args.gates.now true c.args.a.now c.in_ok-ones.ones.items c.in_ok-ones.ensures c.requires)

pub returns-clause-value : goal.returns-clause-value
returns-clause-value c = gives-decremented c.args.gates.now c.sum.new.gates c.args.a.now c.in_ok-ones.ones.items c.in_ok-bits.bits.items c.in_ok-ones.ensures (rw c.as_slice.ensures.value at c.in_ok-bits.ensures.value)
