use Rattle.circuit_laws.proofs.CircuitLemmas.{factory-agrees, tick-agrees, power-agrees, rom-count}
use Rattle.circuit_laws.proofs.laws.circuits_keep_rom_words.Goals as goal

pub returns-clause-factory : goal.returns-clause-factory
returns-clause-factory c = factory-agrees c.args.c.now.lines

pub returns-clause-tick : goal.returns-clause-tick
returns-clause-tick c = λ state inputs long h. tick-agrees c.args.c.now.lines state inputs h

pub returns-clause-power : goal.returns-clause-power
returns-clause-power c = λ keep state noise long many h. power-agrees c.args.c.now.lines keep state noise h

pub returns-clause-count : goal.returns-clause-count
returns-clause-count c = rom-count c.args.c.now.lines
