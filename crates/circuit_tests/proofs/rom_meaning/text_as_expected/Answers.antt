use Rattle.std.proofs.Common.{refl}
use Rattle.btor_read.proofs.MeaningLemmas.{read-circuit}
use Rattle.circuit_tests.specs.Rom.{rom_text, rom}
use Rattle.circuit_tests.proofs.rom_meaning.text_as_expected.Goals as goal

pub returns : goal.returns
returns c = read-circuit rom_text rom refl
