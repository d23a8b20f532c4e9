use Rattle.proof_text.proofs.CnfSound.{printed-again}
use Rattle.proof_text.proofs.printing.formula_printed_again.Goals as goal

pub returns : goal.returns
returns c = λ text f m. printed-again text f m
