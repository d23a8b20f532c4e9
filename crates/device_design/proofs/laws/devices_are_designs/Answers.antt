use Rattle.device_design.specs.Meaning.{design_of}
use Rattle.device_design.proofs.laws.devices_are_designs.Goals as goal

pub returns : goal.returns
returns c =
    let dev = c.args.dev.now in
    record {
      wires = c.parts_make_designs.ensures dev.spec dev.driver dev.emulator c.is_well_formed.ensures c.is_well_formed-2.ensures dev.fits;
      driver = c.drivers_are_lawful.ensures (design_of dev.circuit dev.spec dev.driver dev.emulator) c.devices_have_drivers.ensures.design;
    }
