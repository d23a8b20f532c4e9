-- What five texts mean: each of them by a definition of its own, over those before it.
use Rattle.std.specs.Prelude.{◌≡◌, ◌≤◌, true, List, length, Result, Ok}
use Rattle.knox_verify.specs.Words.{Place, start_of, end_of, Tree, MeansTrees, Bytes, limit, Circuit, SpecParts, DriverParts, EmuParts, IsCircuit, spec_text, driver_text, emulator_text, script_text, fits_device}
use Rattle.knox_verify.specs.Judgements.{Parts}

-- the texts of a circuit, a specification, a driver, an emulator and hints
pub record FiveTexts : Type 0 where
  pub c : Bytes
  pub s : Bytes
  pub d : Bytes
  pub e : Bytes
  pub h : Bytes

abbrev pub five : (c s d e h : Bytes) → FiveTexts
five c s d e h = record { c = c; s = s; d = d; e = e; h = h }

-- the text isn't too long, and means this circuit
abbrev pub MeansCircuit : Bytes → Circuit → Type 0
MeansCircuit text circuit = (length text ≤ limit) × IsCircuit text circuit

-- the text isn't too long, and is these trees
abbrev pub Spells : Bytes → List Tree → Type 0
Spells text list = (length text ≤ limit) × MeansTrees text list

-- the text is trees that a reading takes for this; a reading is told the place of the text's end
abbrev pub Reads : {A F : Type 0} → (Place → List Tree → Result A F) → Bytes → A → Type 0
Reads reading text x = (list : List Tree) × Spells text list × (reading (end_of (start_of text)) list ≡ Ok x)

-- four texts mean a circuit, a specification, a driver and an emulator, which fit each other
pub record MeansDevice (c s d e : Bytes) (circuit : Circuit) (spec : SpecParts) (driver : DriverParts) (emulator : EmuParts) : Type 0 where
  pub circuit_read : MeansCircuit c circuit
  pub spec_read : Reads spec_text s spec
  pub driver_read : Reads (driver_text circuit spec) d driver
  pub emulator_read : Reads (emulator_text circuit spec driver) e emulator
  pub fit : fits_device circuit spec driver emulator ≡ true

-- the parts that five texts mean
pub record Means (t : FiveTexts) (p : Parts) : Type 0 where
  pub device : MeansDevice t.c t.s t.d t.e p.circuit p.spec p.driver p.emulator
  pub script : Reads (script_text p.circuit p.spec p.driver p.emulator) t.h p.script
