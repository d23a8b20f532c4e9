use Rattle.bit_gates.proofs.OperatorLemmas.{gives-and}
use Rattle.bit_gates.proofs.bitwise.and.Goals as goal

pub returns-clause-value : goal.returns-clause-value
returns-clause-value c = gives-and c.args.gates.now c.pairwise.new.gates c.args.a.now c.args.b.now c.in_ok-bits.bits.items c.requires.lengths c.in_ok-bits.ensures.bits
