-- A script as data, and the conditions on its form. Each section and each item has its hint number; conditions and locations are functions of a place.
-- The project's own. Nobody has to believe it for a yes, since the theorem holds for any script; who is told of a hint by number looks here for it.
use Rattle.std.specs.Prelude.{◌≡◌, ℕ, zero, suc, ◌<◌, ◌&&◌, Option, Some, Bool, true, false}
use Rattle.knox_words.specs.Bits.{Bits}
use Rattle.knox_words.specs.Lists.{Words, fits, fit}
use Rattle.knox_theory.specs.Design.{Fits, Config, Design}

-- what a run of a segment of `wire` or of a cut has: the state, and the words that it took in its segment, in order
pub record State : Type 0 where
  pub fields : Words
  pub cells : Words
  pub emu : Words
  pub copy : Words

pub record Place : Type 0 where
  pub state : State
  pub taken : Words

-- a location of one word in S
pub record Location (S : Type 0) : Type 0 where
  pub width : ℕ
  pub get : S → Bits
  pub put : S → Bits → S

-- The pins of a label: for the k-th place at which a run of its segment takes a word before it, from 0, a word of the present state, or none.
abbrev pub Pins : Type 0
Pins = ℕ → Option (State → Bits)

-- The items of `wire` from one place on, each with its hint number. A list ends with a split or a subsume, which names the hint of its label or cut.
-- The condition of a havoc sees its word as the last one that was taken; the condition of a cut sees no words that were taken.
pub data WireItems : Type 0 where
  Step : (hint count : ℕ) (rest : WireItems) → WireItems
  Split : (hint : ℕ) (test : Place → Bool) (yes no : WireItems) → WireItems
  Invariant : (hint : ℕ) (holds : Place → Bool) (rest : WireItems) → WireItems
  Replace : (hint : ℕ) (now value : Place → Words) (rest : WireItems) → WireItems
  Havoc : (hint : ℕ) (loc : Location State) (holds : Place → Bool) (rest : WireItems) → WireItems
  Label : (hint : ℕ) (pins : Pins) (rest : WireItems) → WireItems
  Cut : (hint : ℕ) (holds : State → Bool) (rest : WireItems) → WireItems
  Subsume : (hint target : ℕ) → WireItems

-- what a run of a call has: the fields before the operation, its arguments, the kept words, the driver at its place, and the words that it took
pub record CallPlace (P : Type 0) : Type 0 where
  pub fields : Words
  pub args : Words
  pub kept : Words
  pub config : Config P
  pub taken : Words

-- the items of `call` from one place on
pub data CallItems (P : Type 0) : Type 0 where
  Run : (hint ticks : ℕ) (rest : CallItems P) → CallItems P
  CallSplit : (hint : ℕ) (test : CallPlace P → Bool) (yes no : CallItems P) → CallItems P
  CallInvariant : (hint : ℕ) (holds : CallPlace P → Bool) (rest : CallItems P) → CallItems P
  CallReplace : (hint : ℕ) (now value : CallPlace P → Words) (rest : CallItems P) → CallItems P
  CallHavoc : (hint : ℕ) (loc : Location (Config P)) (holds : CallPlace P → Bool) (rest : CallItems P) → CallItems P
  Close : CallItems P

-- the sections that speak of Host mode
pub record HostSections (P : Type 0) : Type 0 where
  -- of the fields, all cells and the kept words: what has to hold between host calls
  pub idle : (fields cells kept : Words) → Bool
  pub factory_hint : ℕ
  pub boot_host_hint : ℕ
  pub rest_hint : ℕ
  pub wait_hint : ℕ
  pub call_hint : (op : ℕ) → ℕ
  pub calls : (op : ℕ) → CallItems P

pub record Script (P : Type 0) : Type 0 where
  -- of the fields, the persistent words and the kept words: what has to hold whenever power may be cut
  pub refine : (fields persistent kept : Words) → Bool
  pub wire_hint : ℕ
  pub wire : WireItems
  -- a script that speaks of wires alone has none
  pub host : Option (HostSections P)

-- whether every path from here to a subsume has a tick
abbrev pub leads : WireItems → Bool
leads (Step h zero rest) = leads rest
leads (Step h (suc n) rest) = true
leads (Split h t a b) = leads a && leads b
leads (Invariant h c rest) = leads rest
leads (Replace h a b rest) = leads rest
leads (Havoc h x c rest) = leads rest
leads (Label h pins rest) = leads rest
leads (Cut h c rest) = leads rest
leads (Subsume h l) = false

-- and whether so has every path from a label or a cut to a subsume
abbrev pub is_paced : WireItems → Bool
is_paced (Step h n rest) = is_paced rest
is_paced (Split h t a b) = is_paced a && is_paced b
is_paced (Invariant h c rest) = is_paced rest
is_paced (Replace h a b rest) = is_paced rest
is_paced (Havoc h x c rest) = is_paced rest
is_paced (Label h pins rest) = leads rest && is_paced rest
is_paced (Cut h c rest) = leads rest && is_paced rest
is_paced (Subsume h l) = true

pub record FitsState {P : Type 0} (d : Design P) (s : State) : Type 0 where
  pub fields : fit d.fields s.fields ≡ true
  pub cells : Fits d.cells s.cells
  pub emu : fit d.emu s.emu ≡ true
  pub copy : Fits d.copy s.copy

-- a location is a place of the state: the word there has its width, and putting it there again changes nothing
pub record IsLocation {P : Type 0} (d : Design P) (x : Location State) : Type 0 where
  pub fits : (s : State) → FitsState d s → fits x.width (x.get s) ≡ true
  pub same : (s : State) → FitsState d s → x.put s (x.get s) ≡ s

abbrev pub HasLocations : {P : Type 0} → Design P → WireItems → Type 0
HasLocations d (Step h n rest) = HasLocations d rest
HasLocations d (Split h t a b) = HasLocations d a × HasLocations d b
HasLocations d (Invariant h c rest) = HasLocations d rest
HasLocations d (Replace h a b rest) = HasLocations d rest
HasLocations d (Havoc h x c rest) = IsLocation d x × HasLocations d rest
HasLocations d (Label h pins rest) = HasLocations d rest
HasLocations d (Cut h c rest) = HasLocations d rest
HasLocations d (Subsume h l) = Unit {0}

-- the same of a location of the driver in the body of operation o
pub record IsCallLocation {P : Type 0} (d : Design P) (o : ℕ) (x : Location (Config P)) : Type 0 where
  pub fits : (c : Config P) → d.fits_config o c ≡ true → fits x.width (x.get c) ≡ true
  pub same : (c : Config P) → d.fits_config o c ≡ true → x.put c (x.get c) ≡ c

abbrev pub HasCallLocations : {P : Type 0} → Design P → ℕ → CallItems P → Type 0
HasCallLocations d o (Run h n rest) = HasCallLocations d o rest
HasCallLocations d o (CallSplit h t a b) = HasCallLocations d o a × HasCallLocations d o b
HasCallLocations d o (CallInvariant h c rest) = HasCallLocations d o rest
HasCallLocations d o (CallReplace h a b rest) = HasCallLocations d o rest
HasCallLocations d o (CallHavoc h x c rest) = IsCallLocation d o x × HasCallLocations d o rest
HasCallLocations d o Close = Unit {0}

-- a script for this design
pub record IsScript {P : Type 0} (d : Design P) (s : Script P) : Type 0 where
  -- a tick stands between each label or cut and the subsumes behind it: so a subsume that holds leads on to a tick
  pub paced : is_paced s.wire ≡ true
  -- its locations are places of the state
  pub locs : HasLocations d s.wire
  pub call_locs : (h : HostSections P) → s.host ≡ Some h → (o : ℕ) → o < d.device.ops → HasCallLocations d o (h.calls o)
