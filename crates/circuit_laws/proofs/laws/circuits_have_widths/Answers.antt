use Rattle.circuit_laws.proofs.CircuitLemmas.{state-range, input-range, state-count, noise-range}
use Rattle.circuit_laws.proofs.laws.circuits_have_widths.Goals as goal

pub returns-clause-state : goal.returns-clause-state
returns-clause-state c = state-range c.args.c.now.lines

pub returns-clause-inputs : goal.returns-clause-inputs
returns-clause-inputs c = input-range c.args.c.now.lines

pub returns-clause-count : goal.returns-clause-count
returns-clause-count c = state-count c.args.c.now.lines

pub returns-clause-noise : goal.returns-clause-noise
returns-clause-noise c = noise-range c.args.c.now.lines
