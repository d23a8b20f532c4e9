use Rattle.std.proofs.Common.{◌+◌, ◌*◌}
use Rattle.expr_read.proofs.Weights.{weight, weights}
use Rattle.expr_read.proofs.expression.+expressions.Given as goal

abbrev pub decreases-expr : goal.decreases-expr
decreases-expr l = 4 * weight l.tree.now

abbrev pub decreases-list : goal.decreases-list
decreases-list l = 4 * weights l.parts.now + 3

abbrev pub decreases-applied : goal.decreases-applied
decreases-applied l = 4 * weights l.parts.now + 2

abbrev pub decreases-one : goal.decreases-one
decreases-one l = 4 * weights l.parts.now + 1

abbrev pub decreases-two : goal.decreases-two
decreases-two l = 4 * weights l.parts.now + 1

abbrev pub decreases-three : goal.decreases-three
decreases-three l = 4 * weights l.parts.now + 1

abbrev pub decreases-sliced : goal.decreases-sliced
decreases-sliced l = 4 * weights l.parts.now + 1

abbrev pub decreases-extended : goal.decreases-extended
decreases-extended l = 4 * weights l.parts.now + 1
