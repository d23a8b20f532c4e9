use Rattle.bit_gates.proofs.ArithmeticLemmas.{length-turned, within-turned}
use Rattle.bit_gates.proofs.CompareLemmas.{least-tells}
use Rattle.bit_gates.proofs.compare.at_least.Goals as goal

pub add-requires-clause-lengths : goal.add-requires-clause-lengths
add-requires-clause-lengths c = rw c.as_slice.ensures.value (length-turned c.args.a.now c.args.b.now c.in_ok-turned.turned.items c.requires.lengths c.in_ok-turned.ensures)

pub add-requires-clause-b : goal.add-requires-clause-b
add-requires-clause-b c = rw c.as_slice.ensures.value (within-turned c.args.gates.now c.args.b.now c.in_ok-turned.turned.items c.in_ok-turned.ensures c.requires.b)

pub returns-clause-value : goal.returns-clause-value
returns-clause-value c = least-tells c.args.gates.now c.add.new.gates c.args.a.now c.args.b.now c.in_ok-turned.turned.items c.in_ok-_bits.carry c.requires.lengths c.in_ok-turned.ensures (rw c.as_slice.ensures.value at c.in_ok-_bits.ensures.carry)
