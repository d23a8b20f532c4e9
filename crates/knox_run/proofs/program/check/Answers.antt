use Rattle.std.proofs.Common.{inr}
use Rattle.knox_run.specs.Checking.{ChecksTexts}
use Rattle.knox_run.proofs.RunsLemmas.{of-texts}
use Rattle.knox_run.proofs.program.check.Goals as goal

pub returns-in-Ok : goal.returns-in-Ok
returns-in-Ok g c = inr (of-texts (ChecksTexts c.check_given.result) _ _ _ c.in-Ok.first c.in-Ok.ensures.0 c.in-Ok.ensures.1 c.check_given.ensures)
