use Rattle.knox_theory.proofs.Agreeing.{agree-on-wires}
use Rattle.knox_theory.proofs.Listed.{closed-wires}
use Rattle.knox_theory.proofs.laws.closed_implies_agreement_on_wires.Goals as goal

pub returns : goal.returns
returns g c d s good script closed starts = agree-on-wires d s good script (closed-wires d s closed) starts
