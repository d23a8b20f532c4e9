-- Words of the crates below, from one place.
pub use Rattle.knox_words.specs.Lists.{Words}
pub use Rattle.knox_text.specs.{Places.start_of, Places.end_of, declared.place.Place.Place}
pub use Rattle.knox_sexpr.specs.{Grammar.Means as MeansTrees, declared.tree.Tree.Tree}
pub use Rattle.knox_edge.specs.Texts.{Bytes, limit}
pub use Rattle.knox_theory.specs.{Agreement.Agree, Closed.Closed, Closed.ClosedBelow, Closed.Falsifies, Closed.IsAmong, Course.Safe, Course.used, Design.Design, Device.Device}
pub use Rattle.knox_theory.specs.{Lawful.IsDesign, Script.IsScript, Script.Script, Segments.Segment, Segments.segments}
pub use Rattle.knox_circuit.specs.{BtorFault.BtorFault, Circuit.Circuit}
pub use Rattle.knox_lang.specs.declared.parts.{SpecParts.SpecParts, DriverParts.DriverParts, EmuParts.EmuParts}
pub use Rattle.btor_read.specs.Meaning.{IsCircuit, FaultsAt}
pub use Rattle.expr_read.specs.declared.faults.LangFault.{LangFault}
pub use Rattle.lang_read.specs.{Specifications.spec_text, Drivers.driver_text, Emulators.emulator_text}
pub use Rattle.emu_machine.specs.{Fits.fits_device, declared.device.Device.Device as Machine}
pub use Rattle.driver_machine.specs.Left.{Left}
unfoldable pub use Rattle.device_design.specs.Meaning.{device_of, design_of}
pub use Rattle.script_read.specs.{Scripts.script_text, declared.fault.ScriptFault.ScriptFault}
pub use Rattle.script_core.specs.{Hints.ops_of, Hints.script_of, Runs.counted, declared.parts.ScriptParts.ScriptParts}
