use Rattle.std.proofs.Common.{inr}
use Rattle.knox_run.specs.Runs.{VerifiesTo}
use Rattle.knox_run.proofs.RunsLemmas.{of-texts}
use Rattle.knox_run.proofs.program.verify.Goals as goal

pub returns-in-Ok : goal.returns-in-Ok
returns-in-Ok g c = inr (of-texts (VerifiesTo c.judge.result) _ _ _ c.in-Ok.first c.in-Ok.ensures.0 c.in-Ok.ensures.1 c.judge.ensures)
