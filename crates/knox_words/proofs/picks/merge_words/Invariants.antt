use Rattle.std.proofs.Common.{◌≡◌, ◌++◌, length}
use Rattle.knox_words.specs.Lists.{merge}
use Rattle.knox_words.proofs.picks.merge_words.Given as goal

abbrev pub invariant-loop-mark : goal.invariant-loop-mark
invariant-loop-mark l = l.out ++ merge l.marks l.left l.fresh ≡ merge l.fn.mask l.fn.base l.fn.others

abbrev pub decreases-loop-mark : goal.decreases-loop-mark
decreases-loop-mark l = length l.marks
