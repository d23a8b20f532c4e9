use Rattle.std.proofs.Common.{arith}
use Rattle.lrat_check.proofs.PlaceLemmas.{above-formula}
use Rattle.lrat_check.proofs.places.is_past_formula.Goals as goal

pub returns-else-formula-eq0 : goal.returns-else-formula-eq0
returns-else-formula-eq0 c = above-formula c.args.formula c.args.id (omega arith)
