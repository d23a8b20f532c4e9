use Rattle.rat_check.proofs.refutation.Refutation.check.Goals as goal

pub returns-clause-answer : goal.returns-clause-answer
returns-clause-answer c = rw (← c.self.view_is) c.check-answer.ensures
