use Rattle.std.proofs.Common.{◌≡◌, ◌+◌, ◌≤◌, ◌++◌, length, map}
use Rattle.knox_words.specs.Lists.{pick}
use Rattle.knox_circuit.specs.declared.port.Stored.{Stored}
use Rattle.knox_circuit.specs.Cells.{placed, chosen, all_words}
use Rattle.knox_circuit.proofs.states.chosen.Given as goal

abbrev pub invariant-loop-mark : goal.invariant-loop-mark
invariant-loop-mark l = record {
  made : l.cells ++ placed l.place (pick l.marks (map (λ (s : Stored). s.cell) l.left)) ≡ chosen l.mask l.states;
  few : l.place + all_words l.left ≤ 2000000;
}

abbrev pub decreases-loop-mark : goal.decreases-loop-mark
decreases-loop-mark l = length l.marks
