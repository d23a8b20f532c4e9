use Rattle.std.proofs.Common.{length}
use Rattle.proof_text.proofs.dimacs.clear.Given as goal

abbrev pub decreases-all : goal.decreases-all
decreases-all l = length l.lits
