use Rattle.std.proofs.Common.{◌≡◌, take}
use Rattle.sat_core.specs.Storing.{IsSetOf}
use Rattle.sat_core.proofs.storing.set_of.Given as goal

abbrev pub invariant-loop-lit : goal.invariant-loop-lit
invariant-loop-lit l = (l.marks ≡ l.literals.items) × IsSetOf (take l.lit-index l.lits) l.literals.items
