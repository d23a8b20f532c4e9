use Rattle.circuit_laws.proofs.CircuitLemmas.{tick-keeps, factory-keeps, power-keeps}
use Rattle.circuit_laws.proofs.laws.circuits_keep_widths.Goals as goal

pub returns-clause-tick : goal.returns-clause-tick
returns-clause-tick c = tick-keeps c.args.c.now.lines

pub returns-clause-factory : goal.returns-clause-factory
returns-clause-factory c = factory-keeps c.args.c.now.lines

pub returns-clause-power : goal.returns-clause-power
returns-clause-power c = λ keep state noise long h k. power-keeps c.args.c.now.lines keep state noise h k
