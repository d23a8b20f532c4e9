use Rattle.std.proofs.Common.{◌∙◌, ap}
use Rattle.lrat_check.specs.Register.{Entries}
use Rattle.lrat_check.specs.Derivations.{clauses_with, live_in}
use Rattle.lrat_check.proofs.database.Database.live_clause.Goals as goal

pub returns : goal.returns
returns c =
    rw (← c.self.view_is)
    (rw (c.as_slice.ensures, c.as_slice-2.ensures) at c.live_clause.ensures
    ∙ ap (λ (x : Entries). live_in x (clauses_with c.self.inside.cnf.clauses c.self.inside.lemmas) c.args.id) c.self.invariant.register)
