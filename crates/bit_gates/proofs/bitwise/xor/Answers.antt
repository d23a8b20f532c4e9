use Rattle.bit_gates.proofs.OperatorLemmas.{gives-xor}
use Rattle.bit_gates.proofs.bitwise.xor.Goals as goal

pub returns-clause-value : goal.returns-clause-value
returns-clause-value c = gives-xor c.args.gates.now c.pairwise.new.gates c.args.a.now c.args.b.now c.in_ok-bits.bits.items c.requires.lengths c.in_ok-bits.ensures.bits
