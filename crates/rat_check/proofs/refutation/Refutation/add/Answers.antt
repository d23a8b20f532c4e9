use Rattle.std.proofs.Common.{sym, subst}
use Rattle.lrat_check.specs.Derivations.{Proof}
use Rattle.rat_check.specs.Refutations.{IsShown}
use Rattle.rat_check.proofs.RefutationLemmas.{kept-listing, kept-push}
use Rattle.rat_check.proofs.refutation.Refutation.add.Goals as goal

pub invariant_of-self : goal.invariant_of-self
invariant_of-self c = (
  kept-listing c.self.inside.database c.self.inside.occurrences c.add.new.self c.add.ensures.more c.self.invariant.0,
  c.self.invariant.1,
)

pub invariant_of-self-2 : goal.invariant_of-self-2
invariant_of-self-2 c = (
  kept-push c.self.inside.database c.push.new.self c.add.new.self c.args.id c.args.lemma.now c.push.result c.push.ensures.ok c.push.ensures.err (rw c.self.view_is c.requires.above) (subst (λ (d : Proof). IsShown d c.args.lemma.now) (sym c.self.view_is) c.requires.shown)
      c.in_ok-add.ensures.ok (kept-listing c.self.inside.database c.self.inside.occurrences c.add.new.self c.add.ensures.more c.self.invariant.0),
  c.self.invariant.1,
)
