use Rattle.std.proofs.Common.{◌≡◌, map, take}
use Rattle.bit_gates.specs.declared.signal.Signal.TheVariants.{Constant}
use Rattle.bit_gates.proofs.pairs.constants.Given as goal

abbrev pub invariant-loop-i : goal.invariant-loop-i
invariant-loop-i l = l.out.items ≡ map (λ s. Constant l.bit) (take l.i l.a)
