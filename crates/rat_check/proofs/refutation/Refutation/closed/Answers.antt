use Rattle.std.proofs.Common.{◌∙◌, sym}
use Rattle.rat_check.proofs.refutation.Refutation.closed.Goals as goal

pub returns-clause-satisfiable : goal.returns-clause-satisfiable
returns-clause-satisfiable c = rw (← c.self.view_is) c.self.invariant.0.satisfiable

pub returns-clause-unsatisfiable : goal.returns-clause-unsatisfiable
returns-clause-unsatisfiable c = rw (← c.self.view_is) (λ h. c.self.invariant.0.refuted (sym c.closed.ensures ∙ h))
