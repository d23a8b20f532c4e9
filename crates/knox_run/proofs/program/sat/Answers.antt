use Rattle.std.proofs.Common.{inr}
use Rattle.knox_run.specs.Solving.{SolvesTexts}
use Rattle.knox_run.proofs.RunsLemmas.{of-texts}
use Rattle.knox_run.proofs.program.sat.Goals as goal

pub returns-in-Ok : goal.returns-in-Ok
returns-in-Ok g c = inr (of-texts (SolvesTexts c.args.budget c.solve_given.result) _ _ _ c.in-Ok.place c.in-Ok.ensures.0 c.in-Ok.ensures.1 c.solve_given.ensures)
