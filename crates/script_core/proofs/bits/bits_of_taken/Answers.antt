use Rattle.std.proofs.Common.{arith}
use Rattle.script_core.proofs.Counting.{taken-more, taken-short, taken-end}
use Rattle.script_core.proofs.bits.bits_of_taken.Goals as goal

pub loop-mark-preserved : goal.loop-mark-preserved
loop-mark-preserved c = (
  omega (arith, c.saturating_add-sum.type_inv),
  taken-more c.loop-mark.sum _ _ _ _ _ c.loop-mark.marks.now _ c.loop-mark.left.now _ c.in-Some.ensures.cases.0 c.in-Some-split_first.ensures.cases.0 c.bits_if.ensures c.saturating_add-sum.ensures c.loop-mark.invariant.1,
)

pub returns-in_default-split_first : goal.returns-in_default-split_first
returns-in_default-split_first c = taken-short c.loop-mark.sum _ c.loop-mark.marks.now c.loop-mark.left.now c.in_default-split_first.ensures.cases c.loop-mark.invariant.0 c.loop-mark.invariant.1

pub returns : goal.returns
returns c = taken-end c.loop-mark.sum _ c.loop-mark.marks.now c.loop-mark.left.now c.in_default.ensures.cases c.loop-mark.invariant.0 c.loop-mark.invariant.1
