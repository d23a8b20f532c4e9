use Rattle.knox_circuit.specs.Chains.{AreFound}
use Rattle.knox_circuit.proofs.rom.chains_of.Given as goal

abbrev pub invariant-loop-node : goal.invariant-loop-node
invariant-loop-node l = AreFound l.cells l.nodes l.chains
