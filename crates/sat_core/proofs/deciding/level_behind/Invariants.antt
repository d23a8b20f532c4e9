use Rattle.std.proofs.Common.{◌<◌, length}
use Rattle.sat_core.specs.Searching.{decision_at}
use Rattle.sat_core.proofs.deciding.level_behind.Given as goal

abbrev pub invariant-loop-level : goal.invariant-loop-level
invariant-loop-level l = record {
  inside : l.level < length l.decisions;
  behind : l.place < decision_at l.decisions l.level;
}

abbrev pub decreases-loop-level : goal.decreases-loop-level
decreases-loop-level l = l.level
