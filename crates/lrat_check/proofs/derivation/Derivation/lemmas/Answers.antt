use Rattle.lrat_check.proofs.Sound.{lemmas-follow}
use Rattle.lrat_check.proofs.derivation.Derivation.lemmas.Goals as goal

pub returns-clause-follow : goal.returns-clause-follow
returns-clause-follow c = rw (← c.self.view_is) (lemmas-follow c.self.inside.database c.self.invariant.0)
