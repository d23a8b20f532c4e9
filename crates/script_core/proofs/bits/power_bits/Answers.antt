use Rattle.std.proofs.Common.{◌∙◌, ap}
use Rattle.knox_words.specs.Lists.{total}
use Rattle.knox_circuit.specs.Cells.{noise_widths}
use Rattle.script_core.specs.Runs.{counted}
use Rattle.script_core.proofs.Counting.{sum-two}
use Rattle.script_core.proofs.bits.power_bits.Goals as goal

pub returns : goal.returns
returns c =
    let noise = c.noise_bits.ensures ∙ ap (λ keep. counted (total (noise_widths c.args.dev.now.circuit.lines keep))) c.keep.ensures in
    sum-two _ _ _ _ _ c.field_bits.ensures (sum-two _ _ _ _ _ c.kept_bits.ensures noise c.saturating_add-words.ensures) c.saturating_add.ensures
