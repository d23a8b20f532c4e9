use Rattle.device_design.proofs.FitsLemmas.{keeps-states}
use Rattle.device_design.proofs.LawfulLemmas.{known, is-driver}
use Rattle.device_design.proofs.laws.drivers_are_lawful.Goals as goal

pub returns : goal.returns
returns c g has =
    let lines = c.args.c.now.lines in
    is-driver lines c.args.d.now
    (known lines c.args.d.now c.is_well_formed.ensures c.requires (keeps-states lines c.outputs_have_widths.ensures c.circuits_keep_widths.ensures.tick c.circuits_keep_rom_words.ensures.tick c.circuits_have_widths.ensures.count)) g has
