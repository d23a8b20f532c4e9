use Rattle.std.proofs.Common.{arith}
use Rattle.script_core.proofs.Counting.{kept-more}
use Rattle.script_core.proofs.bits.bits_of_kept.Goals as goal

pub loop-cell-preserved : goal.loop-cell-preserved
loop-cell-preserved c =
    let free = c.cut.ensures _ c.words_of-words.ensures in
    let wide = c.cut-in-Some.ensures _ c.words_of-words.ensures in (
      omega (arith, c.saturating_add-sum.type_inv),
      kept-more c.loop-cell.sum _ _ _ c.in-Some.cell.now _ _ _ _ _ _ _ _ _ _ _ c.in-Some.ensures.cases.0 c.first_mark-kept.ensures.first c.first_mark-kept.ensures.rest
          free.0 free.1 wide.0 wide.1 c.bits_where.ensures c.saturating_add-sum.ensures c.loop-cell.invariant.1,
    )
