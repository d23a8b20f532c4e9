use Rattle.std.proofs.Common.{refl}
use Rattle.sat_core.proofs.FewLemmas.{spent-few}
use Rattle.sat_core.proofs.laws.spent_budgets_are_small.Goals as goal

pub returns : goal.returns
returns c = λ budget s. spent-few c.args.d.now.cnf budget c.args.d.now refl s
