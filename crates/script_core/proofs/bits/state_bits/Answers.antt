use Rattle.std.proofs.Common.{◌∙◌, ◌*◌, ap}
use Rattle.script_core.specs.Runs.{counted}
use Rattle.script_core.proofs.Counting.{state-counted}
use Rattle.script_core.proofs.bits.state_bits.Goals as goal

pub returns : goal.returns
returns c = state-counted _ _ _ _ c.words_of.ensures (c.saturating_mul.ensures ∙ ap (λ w. counted (w * c.words_of.result)) c.from.ensures)
