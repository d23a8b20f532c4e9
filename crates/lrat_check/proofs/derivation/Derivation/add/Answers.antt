use Rattle.lrat_check.proofs.KeptLemmas.{pushed-lrup}
use Rattle.lrat_check.proofs.derivation.Derivation.add.Goals as goal

pub invariant_of-self : goal.invariant_of-self
invariant_of-self c = (
  pushed-lrup c.self.inside.database c.push.new.self c.args.id c.args.lemma.now c.args.hints.now c.push.result (rw c.self.view_is c.requires.shown) c.push.ensures.ok c.push.ensures.err c.self.invariant.0,
  c.self.invariant.1,
)
