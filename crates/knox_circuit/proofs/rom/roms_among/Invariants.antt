use Rattle.std.proofs.Common.{◌≡◌, ◌++◌, length}
use Rattle.knox_circuit.specs.Rom.{roms_among}
use Rattle.knox_circuit.proofs.rom.roms_among.Given as goal

abbrev pub invariant-loop-state : goal.invariant-loop-state
invariant-loop-state l = l.roms.items ++ roms_among l.cells l.nodes l.left ≡ roms_among l.cells l.nodes l.states

abbrev pub decreases-loop-state : goal.decreases-loop-state
decreases-loop-state l = length l.left
