use Rattle.device_design.proofs.DesignLemmas.{fit-together}
use Rattle.device_design.proofs.DriverLemmas.{has-driver}
use Rattle.device_design.proofs.laws.devices_have_drivers.Goals as goal

pub returns-clause-driver : goal.returns-clause-driver
returns-clause-driver c =
    let dev = c.args.dev.now in
    (fit-together dev.circuit dev.spec dev.driver dev.emulator dev.fits).driver

pub returns-clause-design : goal.returns-clause-design
returns-clause-design c =
    let dev = c.args.dev.now in
    has-driver dev.circuit dev.spec dev.driver dev.emulator c.rom_words_have_widths.ensures.cells dev.fits
