use Rattle.bit_gates.proofs.OperatorLemmas.{gives-or}
use Rattle.bit_gates.proofs.bitwise.or.Goals as goal

pub returns-clause-value : goal.returns-clause-value
returns-clause-value c = gives-or c.args.gates.now c.pairwise.new.gates c.args.a.now c.args.b.now c.in_ok-bits.bits.items c.requires.lengths c.in_ok-bits.ensures.bits
