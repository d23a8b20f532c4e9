use Rattle.lrat_check.proofs.KeptLemmas.{register-kept}
use Rattle.lrat_check.proofs.database.Database.delete.Goals as goal

pub invariant_of-self : goal.invariant_of-self
invariant_of-self c = record {
  register = register-kept c.self.inside.cnf.clauses c.self.inside.lemmas c.self.inside.register c.delete.new.self c.self.invariant.register c.delete.ensures.kept;
  closed = c.self.invariant.closed;
}
