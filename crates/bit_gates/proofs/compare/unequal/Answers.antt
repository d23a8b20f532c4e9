use Rattle.bit_gates.proofs.CompareLemmas.{unequal-tells}
use Rattle.bit_gates.proofs.compare.unequal.Goals as goal

pub returns-clause-value : goal.returns-clause-value
returns-clause-value c = unequal-tells c.args.gates.now c.equal.new.gates c.args.a.now c.args.b.now c.in_ok-same.same c.complement.result c.complement.ensures c.in_ok-same.ensures.value
