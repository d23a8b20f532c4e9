use Rattle.bit_gates.proofs.ArithmeticLemmas.{gives-sum}
use Rattle.bit_gates.proofs.arithmetic.sum.Goals as goal

pub returns-clause-value : goal.returns-clause-value
returns-clause-value c = gives-sum c.args.gates.now c.add.new.gates c.args.a.now c.args.b.now c.in_ok-bits.bits.items c.requires.lengths c.in_ok-bits.ensures.sum
