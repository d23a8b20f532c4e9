use Rattle.std.proofs.Common.{◌≡◌, ◌<◌, ◌≤◌, ◌^◌, ℕ, true, take}
use Rattle.knox_cnf.specs.Formulas.{is_within}
use Rattle.sat_core.specs.Chains.{clause_at}
use Rattle.sat_core.specs.Storing.{IsAbove}
use Rattle.sat_core.proofs.storing.widest.Given as goal

abbrev pub invariant-loop-clause : goal.invariant-loop-clause
invariant-loop-clause l = ((k : ℕ) → IsAbove l.widest (clause_at (take l.clause-index l.clauses) k)) × (l.widest < 2 ^ 63) × ((n : ℕ) → is_within n l.clauses ≡ true → l.widest ≤ n)
