-- What always holds of a database's fields.
use Rattle.std.specs.Prelude.{◌≡◌}
use Rattle.lrat_check.specs.declared.database.Database.TheInside.{Inside}
use Rattle.lrat_check.specs.Derivations.{Proof, proof, entries_with, is_closed}

abbrev pub proof_of : Inside → Proof
proof_of d = proof d.cnf d.lemmas d.register.live

pub record Kept (d : Inside) : Type 0 where
  pub register : d.register ≡ entries_with d.cnf.clauses d.lemmas d.register.live
  pub closed : d.closed ≡ is_closed (proof_of d)
