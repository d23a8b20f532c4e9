use Rattle.std.proofs.Common.{◌∙◌, ap, length, List, Bool}
use Rattle.knox_words.specs.Lists.{fit}
use Rattle.knox_circuit.specs.Cells.{cells_of, state_widths, noise_widths}
use Rattle.script_core.proofs.Projections.{keep-fits}
use Rattle.script_core.proofs.room.Room.cycle_power.Goals as goal

pub power-requires-clause-keep : goal.power-requires-clause-keep
power-requires-clause-keep c = ap length c.keep.ensures ∙ keep-fits c.args.dev.now

pub returns-clause-fit : goal.returns-clause-fit
returns-clause-fit c =
    let lines = c.args.dev.now.circuit.lines in
    let keep = c.keep.result.now in
    ap (fit (state_widths (cells_of lines))) c.in_ok-self.ensures.words
    ∙ c.circuits_keep_widths.ensures.power keep c.swap.new.x c.args.self.now.noise.words (ap length c.keep.ensures ∙ keep-fits c.args.dev.now)
    (ap (fit (state_widths (cells_of lines))) c.swap.ensures.x_after ∙ c.requires.cells)
    (ap (λ (ks : List Bool). fit (noise_widths lines ks) c.args.self.now.noise.words) c.keep.ensures ∙ c.requires.noise)
