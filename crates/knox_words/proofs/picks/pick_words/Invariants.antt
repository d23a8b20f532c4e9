use Rattle.std.proofs.Common.{◌≡◌, ◌++◌, length}
use Rattle.knox_words.specs.Lists.{pick}
use Rattle.knox_words.proofs.picks.pick_words.Given as goal

abbrev pub invariant-loop-mark : goal.invariant-loop-mark
invariant-loop-mark l = l.out ++ pick l.marks l.left ≡ pick l.fn.mask l.fn.words

abbrev pub decreases-loop-mark : goal.decreases-loop-mark
decreases-loop-mark l = length l.marks
