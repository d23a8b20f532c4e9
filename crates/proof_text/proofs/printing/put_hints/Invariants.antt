use Rattle.std.proofs.Common.{◌≡◌, ◌++◌, take}
use Rattle.std.specs.Prelude.{flat_map}
use Rattle.proof_text.specs.Printing.{signed_shown}
use Rattle.proof_text.proofs.printing.put_hints.Given as goal

abbrev pub invariant-loop-hint : goal.invariant-loop-hint
invariant-loop-hint l = l.out ≡ l.initial.out ++ flat_map signed_shown (take l.hint-index l.hints)
