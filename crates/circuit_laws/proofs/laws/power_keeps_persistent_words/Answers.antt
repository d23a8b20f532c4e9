use Rattle.circuit_laws.proofs.CircuitLemmas.{power-kept, power-alone}
use Rattle.circuit_laws.proofs.laws.power_keeps_persistent_words.Goals as goal

pub returns-clause-kept : goal.returns-clause-kept
returns-clause-kept c = λ keep state noise long h k. power-kept c.args.c.now.lines keep state noise h k

pub returns-clause-alone : goal.returns-clause-alone
returns-clause-alone c = λ keep state noise long h k. power-alone c.args.c.now.lines keep state noise h
