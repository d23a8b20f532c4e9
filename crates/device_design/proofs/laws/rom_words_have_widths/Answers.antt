use Rattle.knox_circuit.specs.Cells.{cells_of, state_widths, words_in, keep_mask}
use Rattle.knox_circuit.specs.Rom.{rom_words}
use Rattle.device_design.proofs.RomLemmas.{roms-fit, known-pick}
use Rattle.device_design.proofs.laws.rom_words_have_widths.Goals as goal

pub returns-clause-cells : goal.returns-clause-cells
returns-clause-cells c =
    let lines = c.args.c.now.lines in
    roms-fit (rom_words lines) (state_widths (cells_of lines)) (words_in (cells_of lines)) c.circuits_have_widths.ensures.state c.circuits_keep_rom_words.ensures.count c.circuits_have_widths.ensures.count c.rom_words_fit.ensures

pub returns-clause-kept : goal.returns-clause-kept
returns-clause-kept c keep =
    let lines = c.args.c.now.lines in
    known-pick (keep_mask (cells_of lines) keep) (rom_words lines) (state_widths (cells_of lines))
    (roms-fit (rom_words lines) (state_widths (cells_of lines)) (words_in (cells_of lines)) c.circuits_have_widths.ensures.state c.circuits_keep_rom_words.ensures.count c.circuits_have_widths.ensures.count c.rom_words_fit.ensures)
