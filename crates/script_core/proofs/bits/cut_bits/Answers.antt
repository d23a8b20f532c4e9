use Rattle.std.proofs.Common.{◌∙◌, ap}
use Rattle.knox_words.specs.Lists.{total}
use Rattle.knox_circuit.specs.Ports.{input_widths}
use Rattle.script_core.specs.Widths.{items_bits}
use Rattle.script_core.specs.Runs.{counted}
use Rattle.script_core.proofs.Counting.{sum-two}
use Rattle.script_core.proofs.Widest.{cut-counted}
use Rattle.script_core.proofs.bits.cut_bits.Goals as goal

pub returns : goal.returns
returns c =
    cut-counted c.args.dev.now c.args.sc.now _ _ _ (sum-two _ _ _ _ _ c.idle_bits.ensures c.emulator_bits.ensures c.saturating_add-words.ensures)
    (c.item_bits.ensures ∙ ap (λ is. counted (items_bits (counted (total (input_widths c.args.dev.now.circuit.lines))) is)) c.behind_cut.ensures) c.saturating_add.ensures
