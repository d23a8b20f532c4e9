use Rattle.std.proofs.Common.{arith}
use Rattle.script_core.proofs.Counting.{state-more}
use Rattle.script_core.proofs.bits.noise_bits.Goals as goal

pub loop-state-preserved : goal.loop-state-preserved
loop-state-preserved c = (
  omega (arith, c.saturating_add-sum.type_inv),
  state-more c.loop-state.sum _ _ _ c.in-Some.state.cell.now _ _ c.in-Some.state.first c.in-Some.ensures c.state_bits.ensures c.saturating_add-sum.ensures c.loop-state.invariant.1,
)
