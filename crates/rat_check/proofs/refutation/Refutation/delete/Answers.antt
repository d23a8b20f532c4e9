use Rattle.rat_check.proofs.RefutationLemmas.{kept-delete}
use Rattle.rat_check.proofs.refutation.Refutation.delete.Goals as goal

pub invariant_of-self : goal.invariant_of-self
invariant_of-self c = (
  kept-delete c.self.inside.database c.delete.new.self c.self.inside.occurrences c.args.ids.now c.delete.result c.delete.ensures.ok c.delete.ensures.same c.delete.ensures.err c.self.invariant.0,
  c.self.invariant.1,
)
