use Rattle.std.proofs.Common.{◌≡◌, ◌++◌, take}
use Rattle.std.specs.Prelude.{flat_map}
use Rattle.proof_text.specs.Printing.{natural_shown}
use Rattle.proof_text.proofs.printing.put_ids.Given as goal

abbrev pub invariant-loop-id : goal.invariant-loop-id
invariant-loop-id l = l.out ≡ l.initial.out ++ flat_map natural_shown (take l.id-index l.ids)
