use Rattle.std.proofs.Common.{◌≡◌, ◌+◌, ◌-◌, ℕ, length}
use Rattle.std.specs.Prelude.{slice_index_or}
use Rattle.sat_core.proofs.trail.cover.Given as goal

abbrev pub invariant-loop-table : goal.invariant-loop-table
invariant-loop-table l = (k : ℕ) → slice_index_or l.table.items k 0 ≡ slice_index_or l.fn.table.items k 0

abbrev pub decreases-loop-table : goal.decreases-loop-table
decreases-loop-table l = l.place + 1 - length l.table.items
