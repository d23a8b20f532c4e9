use Rattle.knox_theory.proofs.Widths.{closed-tried, tried-closed}
use Rattle.knox_theory.proofs.search.trying_all_closes.Goals as goal

pub returns-clause-close : goal.returns-clause-close
returns-clause-close g c d s e = tried-closed d s e

pub returns-clause-alone : goal.returns-clause-alone
returns-clause-alone g c d s closed = closed-tried d s closed
