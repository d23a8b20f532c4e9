use Rattle.circuit_nodes.proofs.LogicLemmas.{packed-logic}
use Rattle.circuit_nodes.proofs.packing.logic_at.Goals as goal

pub returns : goal.returns
returns c =
    packed-logic c.args.places.now c.args.needs.now c.args.nodes.now c.in_ok-made.made c.args.args.now c.in_ok-outputs.outputs c.args.nexts.now c.in_ok-nexts.nexts
    c.requires.places c.requires.needs c.in_ok-made.ensures c.in_ok-outputs.ensures c.in_ok-nexts.ensures
