-- What always holds of a refutation.
use Rattle.std.specs.Prelude.{◌≡◌, true, length, ◌+◌}
use Rattle.lrat_check.specs.Register.{Rises, all_ids}
use Rattle.lrat_check.specs.Derivations.{Proof, entries_of, is_closed}
use Rattle.lrat_check.specs.Soundness.{IsUnsatisfiable}
use Rattle.rat_check.specs.declared.occurrences.Occurrences.{Occurrences}
use Rattle.rat_check.specs.Occurrences.{AreListed}
use Rattle.rat_check.specs.Soundness.{StaysSatisfiable}

pub record Kept (d : Proof) (o : Occurrences) : Type 0 where
  pub each_live : length d.live ≡ length d.cnf.clauses + length d.lemmas
  pub rises : Rises (all_ids (entries_of d))
  pub listed : AreListed d o
  pub satisfiable : StaysSatisfiable d
  pub refuted : is_closed d ≡ true → IsUnsatisfiable d
