use Rattle.std.proofs.Common.{refl}
use Rattle.device_design.proofs.FitsLemmas.{keeps-states}
use Rattle.device_design.proofs.LawfulLemmas.{known, start-fits, step-fits, word-fits, local-fits}
use Rattle.device_design.proofs.laws.places_are_kept.Goals as goal

pub returns-clause-start : goal.returns-clause-start
returns-clause-start c op args cells head at =
    let lines = c.args.c.now.lines in
    start-fits lines c.args.d.now (known lines c.args.d.now c.is_well_formed.ensures c.requires (keeps-states lines c.outputs_have_widths.ensures c.circuits_keep_widths.ensures.tick c.circuits_keep_rom_words.ensures.tick c.circuits_have_widths.ensures.count)) op args cells _
    (record { head = head; at = at; widths = refl })

pub returns-clause-step : goal.returns-clause-step
returns-clause-step c =
    let lines = c.args.c.now.lines in
    step-fits lines c.args.d.now (known lines c.args.d.now c.is_well_formed.ensures c.requires (keeps-states lines c.outputs_have_widths.ensures c.circuits_keep_widths.ensures.tick c.circuits_keep_rom_words.ensures.tick c.circuits_have_widths.ensures.count))

pub returns-clause-word : goal.returns-clause-word
returns-clause-word c = word-fits c.args.c.now.lines c.args.d.now

pub returns-clause-local_word : goal.returns-clause-local_word
returns-clause-local_word c = local-fits c.args.c.now.lines c.args.d.now
