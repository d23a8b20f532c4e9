use Rattle.std.proofs.Common.{◌∙◌, ap}
use Rattle.knox_words.specs.Lists.{total}
use Rattle.knox_circuit.specs.Ports.{input_widths}
use Rattle.script_core.specs.Widths.{items_bits}
use Rattle.script_core.specs.Runs.{counted}
use Rattle.script_core.proofs.Widest.{wire-counted}
use Rattle.script_core.proofs.bits.wire_bits.Goals as goal

pub returns : goal.returns
returns c =
    wire-counted c.args.dev.now c.args.sc.now _ _ _ c.power_bits.ensures
    (c.item_bits.ensures ∙ ap (λ is. counted (items_bits (counted (total (input_widths c.args.dev.now.circuit.lines))) is)) c.wire.ensures) c.saturating_add.ensures
