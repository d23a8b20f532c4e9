use Rattle.bit_gates.proofs.CompareLemmas.{below-tells}
use Rattle.bit_gates.proofs.compare.below.Goals as goal

pub returns-clause-value : goal.returns-clause-value
returns-clause-value c = below-tells c.args.gates.now c.at_least.new.gates c.args.a.now c.args.b.now c.in_ok-least.least c.complement.result c.complement.ensures c.in_ok-least.ensures.value
