use Rattle.std.proofs.Common.{ℕ, ◌+◌, ◌<◌, [], get_or}
use Rattle.rat_check.specs.Occurrences.{Lists}
use Rattle.rat_check.proofs.occurrences.Occurrences.new.Given as goal

abbrev pub invariant-loop-at : goal.invariant-loop-at
invariant-loop-at l = (k : ℕ) → k < l.at → Lists l.occurrences (k + 1) (get_or l.clauses k [])
