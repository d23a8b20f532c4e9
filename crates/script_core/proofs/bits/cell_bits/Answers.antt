use Rattle.std.proofs.Common.{◌∙◌}
use Rattle.knox_words.specs.Lists.{total, pick}
use Rattle.script_core.specs.Runs.{counted}
use Rattle.script_core.proofs.bits.cell_bits.Goals as goal

pub returns : goal.returns
returns c = c.bits_of_taken.ensures ∙ (λ i. counted (total (pick (c.free_mask.ensures i) (c.state_widths.ensures i))))
