use Rattle.std.proofs.Common.{rules, ◌≡◌, Some, length}
use Rattle.circuit_table.specs.Whole.{unfed_among}
use Rattle.knox_circuit.proofs.RowsLemmas.{line-within}
use Rattle.knox_circuit.proofs.draft.Draft.finish.Goals as goal

pub text_line-requires : goal.text_line-requires
text_line-requires c =
    let found : unfed_among c.as_slice.result.now (length c.as_slice.result.now) ≡ Some c.in-Some.at = search rules in
    line-within c.self.inside.lines c.as_slice-in-Some.result.now c.self.inside.table c.as_slice.result.now c.in-Some.at c.self.invariant c.as_slice.ensures.value c.as_slice-in-Some.ensures found
