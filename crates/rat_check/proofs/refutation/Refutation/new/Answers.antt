use Rattle.std.proofs.Common.{sym, subst}
use Rattle.lrat_check.specs.Derivations.{Proof}
use Rattle.rat_check.specs.Kept.{Kept}
use Rattle.rat_check.proofs.RefutationLemmas.{kept-start}
use Rattle.rat_check.proofs.refutation.Refutation.new.Goals as goal

pub invariant_of-result : goal.invariant_of-result
invariant_of-result c = (
  subst (λ (d : Proof). Kept d c.in_ok-occurrences.occurrences) (sym c.in_ok-database.ensures) (kept-start c.args.cnf c.in_ok-occurrences.occurrences c.in_ok-occurrences.ensures),
  c.in_ok-marks.ensures,
)
