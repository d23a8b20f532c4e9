use Rattle.std.proofs.Common.{◌≡◌, ◌<◌, ◌≤◌, ◌^◌, ℕ, true, take}
use Rattle.knox_cnf.specs.Formulas.{clause_within}
use Rattle.sat_core.specs.Storing.{IsAbove}
use Rattle.sat_core.proofs.storing.widest_of.Given as goal

abbrev pub invariant-loop-lit : goal.invariant-loop-lit
invariant-loop-lit l = IsAbove l.widest (take l.lit-index l.lits) × (l.widest < 2 ^ 63) × ((n : ℕ) → clause_within n l.lits ≡ true → l.widest ≤ n)
