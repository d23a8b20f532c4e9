-- A device and a script as the parts of five texts, and what deciding the script says of them.
use Rattle.std.specs.Prelude.{◌≡◌, ℕ, ◌<◌, List, ◌≤◌, ◌∷◌, ◌++◌}
use Rattle.knox_verify.specs.Words.{Words, Device, Design, Script, Segment, segments, used, Closed, ClosedBelow, Falsifies, IsAmong, Circuit, SpecParts, DriverParts, EmuParts, ScriptParts, Left, Machine}
use Rattle.knox_verify.specs.Words.{device_of, design_of, script_of, counted}

-- a circuit, three programs and a script of hints
pub record Parts : Type 0 where
  pub circuit : Circuit
  pub spec : SpecParts
  pub driver : DriverParts
  pub emulator : EmuParts
  pub script : ScriptParts

-- those of a device and a script
abbrev pub parts_of : Machine → ScriptParts → Parts
parts_of dev script = record { circuit = dev.circuit; spec = dev.spec; driver = dev.driver; emulator = dev.emulator; script = script }

-- the device that they are, its design, and the script for it
abbrev pub device : Parts → Device
device p = device_of p.circuit p.spec p.driver p.emulator

abbrev pub design : Parts → Design Left
design p = design_of p.circuit p.spec p.driver p.emulator

abbrev pub hints : Parts → Script Left
hints p = script_of p.circuit p.spec p.driver p.script

-- no segment before this one, in order of their numbers, takes more than 20 bits, and no choices falsify a hint of one
pub record HoldBefore (p : Parts) (g : Segment) : Type 0 where
  pub before : List Segment
  pub after : List Segment
  pub whole : segments (design p) (hints p) ≡ before ++ g ∷ after
  pub narrow : (x : Segment) → IsAmong x before → counted x.choice_bits ≤ 20
  pub below : ClosedBelow (design p) (hints p) g.hint

-- the script is closed: no choices falsify a hint of it; and no segment takes more than 20 bits
pub record AllHold (p : Parts) : Type 0 where
  pub closed : Closed (design p) (hints p)
  pub narrow : (x : Segment) → IsAmong x (segments (design p) (hints p)) → counted x.choice_bits ≤ 20

-- these choices falsify a hint of a segment of at most 20 bits, and are the words that its run takes; the segments before it hold
pub record Undecides (p : Parts) (hint : ℕ) (choices : Words) : Type 0 where
  pub falsified : Falsifies (design p) (hints p) hint choices
  pub taken : used falsified.segment.course choices ≡ choices
  pub fits : counted falsified.segment.choice_bits ≤ 20
  pub first : HoldBefore p falsified.segment

-- the segment of a section or cut takes more than 20 bits; those before it hold
pub record IsTooWide (p : Parts) (hint bits : ℕ) : Type 0 where
  pub segment : Segment
  pub listed : IsAmong segment (segments (design p) (hints p))
  pub named : hint ≡ segment.hint
  pub counts : bits ≡ counted segment.choice_bits
  pub wide : 20 < bits
  pub first : HoldBefore p segment
