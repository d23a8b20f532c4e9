use Rattle.bit_gates.proofs.OperatorLemmas.{complements-not}
use Rattle.bit_gates.proofs.bitwise.not.Goals as goal

pub returns : goal.returns
returns c = complements-not c.args.a.now c.in_ok-turned.turned.items c.in_ok-turned.ensures
