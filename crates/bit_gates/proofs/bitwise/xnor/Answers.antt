use Rattle.bit_gates.proofs.OperatorLemmas.{gives-xnor}
use Rattle.bit_gates.proofs.bitwise.xnor.Goals as goal

pub returns-clause-value : goal.returns-clause-value
returns-clause-value c = gives-xnor c.args.gates.now c.pairwise.new.gates c.args.a.now c.args.b.now c.in_ok-bits.bits.items c.in_ok-turned.turned.items c.requires.lengths c.in_ok-bits.ensures.bits (rw c.as_slice.ensures.value at c.in_ok-turned.ensures)
