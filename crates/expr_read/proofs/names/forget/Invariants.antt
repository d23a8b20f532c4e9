use Rattle.std.proofs.Common.{◌≡◌, length, take}
use Rattle.expr_read.proofs.names.forget.Given as goal

abbrev pub invariant-loop-names : goal.invariant-loop-names
invariant-loop-names l = take l.first l.names ≡ take l.first l.initial.names

abbrev pub decreases-loop-names : goal.decreases-loop-names
decreases-loop-names l = length l.names
