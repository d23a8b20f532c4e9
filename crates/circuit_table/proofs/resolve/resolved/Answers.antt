use Rattle.std.proofs.Common.{sym, ◌∙◌}
use Rattle.circuit_table.proofs.ShapeLemmas.{shape-typed}
use Rattle.circuit_table.proofs.resolve.resolved.Goals as goal

pub returns-clause-typed : goal.returns-clause-typed
returns-clause-typed c =
    shape-typed c.args.table.now c.args.line.now.number c.args.line.now.shape c.in_ok-made.made c.as_slice-rows.ensures.typed (sym c.in_ok-made.was ∙ c.shape_resolved.ensures)
