use Rattle.std.proofs.Common.{◌≡◌, ap}
use Rattle.lrat_check.specs.declared.lemma.Lemma.{Lemma}
use Rattle.lrat_check.specs.Derivations.{lemma}
use Rattle.lrat_check.proofs.KeptLemmas.{add-register, add-closed}
use Rattle.lrat_check.proofs.database.Database.push.Goals as goal

pub invariant_of-self-in-Ok : goal.invariant_of-self-in-Ok
invariant_of-self-in-Ok c =
    let made : c.in_ok-made.made ≡ lemma c.args.id c.args.lemma.now c.args.hints.now = c.in_ok-made.ensures in
    record {
      register = add-register c.self.inside.cnf.clauses c.self.inside.lemmas c.push.new.self c.self.inside.register c.push-2.new.self c.args.id c.in_ok-made.made c.self.invariant.register (ap (λ (m : Lemma). m.id) made) c.in_ok-push.ensures.ok c.in-Ok.ensures.ok;
      closed = add-closed c.self.inside.cnf.clauses c.self.inside.lemmas c.push.new.self c.in_ok-made.made c.args.lemma.now c.self.inside.closed c.closed_with-self-inside.result c.self.invariant.closed c.closed_with-self-inside.ensures (ap (λ (m : Lemma). m.lits) made) c.in_ok-push.ensures.ok;
    }
