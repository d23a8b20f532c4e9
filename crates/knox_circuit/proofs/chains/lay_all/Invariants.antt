use Rattle.std.proofs.Common.{◌≡◌, ◌+◌, length}
use Rattle.knox_circuit.proofs.ChainsLemmas.{over_from}
use Rattle.knox_circuit.proofs.chains.lay_all.Given as goal

abbrev pub invariant-loop-word : goal.invariant-loop-word
invariant-loop-word l = record {
  place : l.at + length l.left ≡ length l.words;
  laid : over_from l.at l.known l.left ≡ over_from 0 l.initial.known l.words;
}

abbrev pub decreases-loop-word : goal.decreases-loop-word
decreases-loop-word l = length l.left
