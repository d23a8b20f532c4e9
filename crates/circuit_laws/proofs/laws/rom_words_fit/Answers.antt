use Rattle.circuit_laws.proofs.CircuitLemmas.{rom-fits}
use Rattle.circuit_laws.proofs.laws.rom_words_fit.Goals as goal

pub returns : goal.returns
returns c = rom-fits c.args.c.now.lines
