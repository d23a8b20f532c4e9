use Rattle.proof_text.proofs.LratSound.{printed-again}
use Rattle.proof_text.proofs.printing.proof_printed_again.Goals as goal

pub returns : goal.returns
returns c = λ text ls m. printed-again text ls m
