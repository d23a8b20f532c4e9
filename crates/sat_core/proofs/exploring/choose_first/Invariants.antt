use Rattle.std.proofs.Common.{ℕ, ◌≤◌, ◌<◌}
use Rattle.sat_core.specs.Models.{IsAssigned}
use Rattle.sat_core.proofs.exploring.choose_first.Given as goal

abbrev pub invariant-loop-var : goal.invariant-loop-var
invariant-loop-var l = (v : ℕ) → 1 ≤ v → v < l.var → IsAssigned l.trail v
