use Rattle.knox_theory.proofs.Agreeing.{agree}
use Rattle.knox_theory.proofs.Listed.{closed-host, closed-wires}
use Rattle.knox_theory.proofs.laws.closed_implies_agreement.Goals as goal

pub returns : goal.returns
returns g c d s host is good script closed = agree d s host is good script (closed-wires d s closed) (closed-host d s host is closed)
