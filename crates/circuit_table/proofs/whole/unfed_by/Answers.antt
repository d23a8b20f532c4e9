use Rattle.std.proofs.Common.{◌<◌, length, sym, ◌∙◌, arith}
use Rattle.circuit_table.proofs.WholeLemmas.{fed-found}
use Rattle.circuit_table.proofs.whole.unfed_by.Goals as goal

pub returns-then-row_lacks : goal.returns-then-row_lacks
returns-then-row_lacks c =
    let lt : c.loop-at.at < length c.args.rows.now = omega arith in
    fed-found c.loop-at.marks c.args.rows.now c.loop-at.at c.row_at-row.result.now c.loop-at.invariant.marked c.row_at-row.ensures
    (sym c.if-row_lacks.true ∙ c.row_lacks.ensures) c.loop-at.invariant.none lt
