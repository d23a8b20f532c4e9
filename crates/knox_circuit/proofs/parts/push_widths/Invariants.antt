use Rattle.std.proofs.Common.{◌≡◌, ◌++◌, length}
use Rattle.knox_circuit.specs.Parts.{widths_where}
use Rattle.knox_circuit.proofs.parts.push_widths.Given as goal

abbrev pub invariant-loop-state : goal.invariant-loop-state
invariant-loop-state l = l.widths.items ++ widths_where l.fed l.left ≡ l.fn.widths.items ++ widths_where l.fed l.states

abbrev pub decreases-loop-state : goal.decreases-loop-state
decreases-loop-state l = length l.left
