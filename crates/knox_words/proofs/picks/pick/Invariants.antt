use Rattle.std.proofs.Common.{◌≡◌, ◌++◌, length}
use Rattle.knox_words.specs.Lists.{pick}
use Rattle.knox_words.proofs.picks.pick.Given as goal

abbrev pub invariant-loop-mark : goal.invariant-loop-mark
invariant-loop-mark g l = l.out.items ++ pick l.marks l.left ≡ pick l.fn.mask l.fn.items

abbrev pub decreases-loop-mark : goal.decreases-loop-mark
decreases-loop-mark g l = length l.marks
