use Rattle.bit_gates.proofs.GrowthLemmas.{or-means}
use Rattle.bit_gates.proofs.gates.Gates.or.Goals as goal

pub returns-clause-value : goal.returns-clause-value
returns-clause-value c =
    rw c.complement-3.ensures
    (or-means c.args.self.now c.and.new.self c.args.a c.args.b c.in_ok-neither.neither (rw (c.complement.ensures, c.complement-2.ensures) at c.in_ok-neither.ensures.value))
