use Rattle.script_core.proofs.Counting.{sum-two}
use Rattle.script_core.proofs.bits.call_bits.Goals as goal

pub returns : goal.returns
returns c = sum-two _ _ _ _ _ c.idle_bits.ensures c.argument_bits.ensures c.saturating_add.ensures
