use Rattle.std.proofs.Common.{◌≡◌, None}
use Rattle.circuit_table.specs.Whole.{unfed_among}
use Rattle.circuit_table.proofs.WholeLemmas.{AreMarked}
use Rattle.circuit_table.proofs.whole.unfed_by.Given as goal

abbrev pub invariant-loop-at : goal.invariant-loop-at
invariant-loop-at l = record {
  marked : AreMarked l.marks l.rows l.at;
  none : unfed_among l.rows l.at ≡ None;
}
