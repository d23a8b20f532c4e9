use Rattle.std.proofs.Common.{◌≡◌, ◌≤◌, ◌+◌, length}
use Rattle.knox_circuit.specs.Cells.{all_words, noise_mask, marked, placed}
use Rattle.knox_circuit.proofs.walk.NoiseCells.next.Given as goal

abbrev pub invariant-loop-state : goal.invariant-loop-state
invariant-loop-state l = record {
  left : placed l.self-inside.place (marked (noise_mask l.self-inside.states.now l.self-inside.keeps.now) l.self-inside.states.now) ≡ placed l.initial.self-inside.place (marked (noise_mask l.initial.self-inside.states.now l.initial.self-inside.keeps.now) l.initial.self-inside.states.now);
  few : l.self-inside.place + all_words l.self-inside.states.now ≤ 2000000;
}

abbrev pub decreases-loop-state : goal.decreases-loop-state
decreases-loop-state l = length l.self-inside.states.now
