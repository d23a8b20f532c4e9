use Rattle.std.proofs.Common.{◌∙◌, sym}
use Rattle.lrat_check.proofs.Sound.{closed-unsatisfiable}
use Rattle.lrat_check.proofs.derivation.Derivation.closed.Goals as goal

pub returns-clause-unsatisfiable : goal.returns-clause-unsatisfiable
returns-clause-unsatisfiable c =
    rw (← c.self.view_is) (λ h. closed-unsatisfiable c.self.inside.database c.self.invariant.0 (sym c.closed.ensures ∙ h))
