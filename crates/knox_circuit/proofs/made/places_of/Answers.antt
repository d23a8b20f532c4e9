use Rattle.std.proofs.Common.{◌∙◌}
use Rattle.knox_circuit.proofs.StatesLemmas.{few-from}
use Rattle.knox_circuit.proofs.made.places_of.Goals as goal

pub cells_of-requires : goal.cells_of-requires
cells_of-requires c = few-from c.args.lines.now c.args.rows.now c.as_slice.result.now c.requires (c.as_slice.ensures ∙ c.in_ok-states.ensures)

pub bares_of-requires : goal.bares_of-requires
bares_of-requires c = few-from c.args.lines.now c.args.rows.now c.as_slice-2.result.now c.requires (c.as_slice-2.ensures ∙ c.in_ok-states.ensures)
