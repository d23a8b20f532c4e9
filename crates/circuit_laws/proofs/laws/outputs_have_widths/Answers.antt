use Rattle.circuit_laws.proofs.CircuitLemmas.{outputs-keep}
use Rattle.circuit_laws.proofs.laws.outputs_have_widths.Goals as goal

pub returns : goal.returns
returns c = outputs-keep c.args.c.now.lines
