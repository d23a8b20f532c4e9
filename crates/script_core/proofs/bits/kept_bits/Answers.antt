use Rattle.std.proofs.Common.{◌∙◌, ◌≡◌, is_none}
use Rattle.knox_words.specs.Lists.{total, pick}
use Rattle.knox_words.proofs.PickLemmas.{pick-map}
use Rattle.knox_circuit.specs.Cells.{cells_of, state_widths, keep_mask}
use Rattle.knox_circuit.specs.Rom.{rom_words, free_mask}
use Rattle.script_core.specs.Runs.{counted}
use Rattle.script_core.proofs.bits.kept_bits.Goals as goal

pub returns : goal.returns
returns c =
    let lines = c.args.dev.now.circuit.lines in
    let picked : pick (keep_mask c.cells.result.now c.keep.result.now) c.free_mask.result.now ≡ pick (keep_mask (cells_of lines) c.args.dev.now.driver.keep) (free_mask (rom_words lines)) =
    λ i. pick (keep_mask (c.cells.ensures i) (c.keep.ensures i)) (c.free_mask.ensures i) in
    let free = picked ∙ pick-map is_none (keep_mask (cells_of lines) c.args.dev.now.driver.keep) (rom_words lines) in
    let widths : pick (keep_mask c.cells.result.now c.keep.result.now) c.state_widths.result.now ≡ pick (keep_mask (cells_of lines) c.args.dev.now.driver.keep) (state_widths (cells_of lines)) =
    λ i. pick (keep_mask (c.cells.ensures i) (c.keep.ensures i)) (c.state_widths.ensures i) in
    c.bits_of_kept.ensures ∙ (λ i. counted (total (pick (free i) (widths i))))
