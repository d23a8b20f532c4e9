use Rattle.std.proofs.Common.{◌∙◌, sym}
use Rattle.device_design.proofs.DesignLemmas.{parts-make-design}
use Rattle.device_design.proofs.laws.parts_make_designs.Goals as goal

pub returns : goal.returns
returns c s d e spec ok fits = parts-make-design c.args.c.now s d e (λ keep. record {
  tick = λ state ins f g. c.circuits_keep_widths.ensures.tick state ins f g;
  factory = λ noise f. c.circuits_keep_widths.ensures.factory noise f;
  power = λ state noise f g. c.circuits_keep_widths.ensures.power d.keep state noise keep f g;
  kept = λ state noise f g. c.power_keeps_persistent_words.ensures.kept d.keep state noise keep f g;
  fitting = λ state f. c.persistent_words_are_spread.ensures.fitting d.keep state f;
  spread = λ words f. c.persistent_words_are_spread.ensures.spread d.keep words f;
  back = λ words f. c.persistent_words_are_spread.ensures.back d.keep words f;
  alone = λ state noise f g. c.power_keeps_persistent_words.ensures.alone d.keep state noise keep f g;
  roms = record {
    count = λ state f. c.circuits_keep_rom_words.ensures.count ∙ sym (c.circuits_have_widths.ensures.count state f);
    widths = c.rom_words_have_widths.ensures.cells;
    factory = c.circuits_keep_rom_words.ensures.factory;
    tick = λ state ins f k. c.circuits_keep_rom_words.ensures.tick state ins (c.circuits_have_widths.ensures.count state f) k;
    power = λ state noise f g k. c.circuits_keep_rom_words.ensures.power d.keep state noise keep (c.circuits_have_widths.ensures.count state f) k;
  };
}) spec ok fits
