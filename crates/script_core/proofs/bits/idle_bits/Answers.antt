use Rattle.script_core.proofs.Counting.{sum-two}
use Rattle.script_core.proofs.bits.idle_bits.Goals as goal

pub returns : goal.returns
returns c = sum-two _ _ _ _ _ c.field_bits.ensures c.cell_bits.ensures c.saturating_add.ensures
