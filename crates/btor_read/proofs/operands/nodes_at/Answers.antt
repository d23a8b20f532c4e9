use Rattle.std.proofs.Common.{◌≡◌, ◌∷◌, [], ◌++◌, rules, arith}
use Rattle.std.proofs.lemmas.Grind.{common_steps}
use Rattle.btor_read.specs.Grammar.{nodes_at}
use Rattle.btor_read.proofs.NodesLemmas.{nodes-more}
use Rattle.btor_read.proofs.operands.nodes_at.Goals as goal

pub loop-left-preserved : goal.loop-left-preserved
loop-left-preserved c =
    let is : c.push.new.self ≡ c.loop-left.nodes ++ c.in_ok-node.node ∷ [] = first_of (search rules, grind (arith, common_steps)) in
    nodes-more c.loop-left.nodes c.push.new.self c.loop-left.left c.loop-left.tokens c.node_at.new.tokens c.in_ok-node.node
    (nodes_at c.args.count c.args.tokens.now) c.loop-left.invariant c.loop-left-test.true c.in_ok-node.ensures.ok is
