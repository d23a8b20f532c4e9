use Rattle.std.proofs.Common.{◌≡◌, true, take}
use Rattle.knox_cnf.specs.Literals.{Literal, has}
use Rattle.sat_core.specs.Resolved.{IsHeld}
use Rattle.sat_core.proofs.analysis.are_covered.Given as goal

abbrev pub invariant-loop-lit : goal.invariant-loop-lit
invariant-loop-lit l = (x : Literal) → has (take l.lit-index l.lits) x ≡ true → IsHeld l.trail l.marks l.place x
