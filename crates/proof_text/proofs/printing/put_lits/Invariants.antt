use Rattle.std.proofs.Common.{◌≡◌, ◌++◌, take}
use Rattle.std.specs.Prelude.{flat_map}
use Rattle.proof_text.specs.Printing.{literal_shown}
use Rattle.proof_text.proofs.printing.put_lits.Given as goal

abbrev pub invariant-loop-lit : goal.invariant-loop-lit
invariant-loop-lit l = l.out ≡ l.initial.out ++ flat_map literal_shown (take l.lit-index l.lits)
