use Rattle.std.proofs.Common.{◌≡◌, ◌*◌, length}
use Rattle.sat_core.proofs.storing.empty_lists.Given as goal

abbrev pub invariant-loop-k : goal.invariant-loop-k
invariant-loop-k l = length l.lists.items ≡ 2 * l._k
