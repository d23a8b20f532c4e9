use Rattle.std.proofs.Common.{◌≡◌, ◌≤◌, length}
use Rattle.knox_words.specs.Lists.{fit}
use Rattle.knox_circuit.specs.Cells.{state_widths, all_words, noise_mask, marked}
use Rattle.knox_circuit.proofs.states.fits_marked.Given as goal

abbrev pub invariant-loop-state : goal.invariant-loop-state
invariant-loop-state l = record {
  rest : fit (state_widths (marked (noise_mask l.left l.kept) l.left)) l.others ≡ fit (state_widths (marked (noise_mask l.states l.keep) l.states)) l.words;
  few : all_words l.left ≤ 2000000;
}

abbrev pub decreases-loop-state : goal.decreases-loop-state
decreases-loop-state l = length l.left
