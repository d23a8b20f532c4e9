use Rattle.std.proofs.Common.{◌≡◌}
use Rattle.btor_read.specs.Grammar.{nodes_at}
use Rattle.btor_read.proofs.NodesLemmas.{gathered}
use Rattle.btor_read.proofs.operands.nodes_at.Given as goal

abbrev pub invariant-loop-left : goal.invariant-loop-left
invariant-loop-left l = gathered l.nodes (nodes_at l.left l.tokens) ≡ nodes_at l.count l.initial.tokens

abbrev pub decreases-loop-left : goal.decreases-loop-left
decreases-loop-left l = l.left
