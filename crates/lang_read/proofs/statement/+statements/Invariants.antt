use Rattle.std.proofs.Common.{◌≡◌, ◌+◌, ◌*◌, drop}
use Rattle.expr_read.specs.Views.{each}
use Rattle.expr_read.proofs.Weights.{weight, weights}
use Rattle.lang_read.specs.Statements.{stmt_of, and_step, block_of}
use Rattle.lang_read.specs.declared.statement.Steps.{Steps}
use Rattle.lang_read.proofs.statement.+statements.Given as goal

abbrev pub invariant-block-loop-tree : goal.invariant-block-loop-tree
invariant-block-loop-tree l = each (λ (before : Steps) t. stmt_of l.home t l.names) and_step (record { stmts = l.stmts; cost = l.cost }) (drop l.tree-index l.trees) ≡ block_of l.home l.trees l.names

abbrev pub decreases-block : goal.decreases-block
decreases-block l = 6 * weights l.trees.now + 1

abbrev pub decreases-statement : goal.decreases-statement
decreases-statement l = 6 * weight l.tree.now

abbrev pub decreases-begun : goal.decreases-begun
decreases-begun l = 6 * weights l.parts.now + 5

abbrev pub decreases-form : goal.decreases-form
decreases-form l = 6 * weights l.parts.now + 4

abbrev pub decreases-branch : goal.decreases-branch
decreases-branch l = 6 * weights l.parts.now + 3

abbrev pub decreases-branched : goal.decreases-branched
decreases-branched l = 6 * (weight l.a.now + weight l.b.now) + 2

abbrev pub decreases-inner : goal.decreases-inner
decreases-inner l = 6 * weight l.tree.now + 1

abbrev pub decreases-repeat : goal.decreases-repeat
decreases-repeat l = 6 * weights l.parts.now + 3

abbrev pub decreases-repeated : goal.decreases-repeated
decreases-repeated l = 6 * weights l.parts.now + 2
