use Rattle.std.proofs.Common.{◌≡◌, length}
use Rattle.knox_circuit.specs.Rom.{agree}
use Rattle.knox_circuit.proofs.rom.agree.Given as goal

abbrev pub invariant-loop-known : goal.invariant-loop-known
invariant-loop-known l = agree l.left l.others ≡ agree l.initial.left l.words

abbrev pub decreases-loop-known : goal.decreases-loop-known
decreases-loop-known l = length l.left
