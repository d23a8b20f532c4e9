use Rattle.std.proofs.Common.{◌≡◌, ◌+◌, ◌≤◌, length}
use Rattle.knox_words.specs.Lists.{total}
use Rattle.knox_circuit.specs.Cells.{state_widths, noise_widths}
use Rattle.script_core.specs.Runs.{counted}
use Rattle.script_core.proofs.bits.noise_bits.Given as goal

abbrev pub invariant-loop-state : goal.invariant-loop-state
invariant-loop-state l = (l.sum ≤ 18446744073709551615) × (counted (l.sum + total (state_widths l.states)) ≡ counted (total (noise_widths l.dev.circuit.lines l.keep)))

abbrev pub decreases-loop-state : goal.decreases-loop-state
decreases-loop-state l = length l.states
