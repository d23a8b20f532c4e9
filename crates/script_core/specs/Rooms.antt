-- What a room for runs is made for, and the state of a run that it holds. The project's own.
use Rattle.std.specs.Prelude.{ℕ, List, [], length, vec_len, Bool, Option}
use Rattle.knox_words.specs.Bits.{Bits}
use Rattle.knox_theory.specs.Script.{State}
use Rattle.knox_circuit.specs.Cells.{cells_of, state_widths, noise_widths, keep_mask}
use Rattle.knox_circuit.specs.Ports.{outputs_of}
use Rattle.knox_circuit.specs.Circuit.{sizes_of, Sizes}
use Rattle.knox_words.specs.Lists.{pick, zeros_or}
use Rattle.knox_lang.specs.WellFormed.{word_widths}
use Rattle.emu_machine.specs.declared.device.Device.{Device}
use Rattle.device_design.specs.Meaning.{persistent_roms}
use Rattle.script_core.specs.declared.room.Room.{Room}

-- how large a scratch area is, how many outputs there are, which device words are kept over a power-cycle, and zero words of all their widths; the
-- widths of the words of runs: of the noise at the factory and at a power-cycle, the specification's fields, the persistent words and the emulator's
-- words; and what is known of the persistent words
pub record RoomSizes : Type 0 where
  pub scratch : Sizes
  pub outputs : ℕ
  pub mask : List Bool
  pub zeros : List Bits
  pub factory_noise : List ℕ
  pub noise : List ℕ
  pub fields : List ℕ
  pub persistent : List ℕ
  pub persistent_roms : List (Option Bits)
  pub emu : List ℕ

-- what the runs on a device ask of a room
abbrev pub room_for : Device → RoomSizes
room_for v = record {
  scratch = sizes_of v.circuit.lines;
  outputs = length (outputs_of v.circuit.lines);
  mask = keep_mask (cells_of v.circuit.lines) v.driver.keep;
  zeros = zeros_or (state_widths (cells_of v.circuit.lines));
  factory_noise = noise_widths v.circuit.lines [];
  noise = noise_widths v.circuit.lines v.driver.keep;
  fields = word_widths v.spec.init;
  persistent = pick (keep_mask (cells_of v.circuit.lines) v.driver.keep) (state_widths (cells_of v.circuit.lines));
  persistent_roms = persistent_roms v.circuit.lines v.driver.keep;
  emu = word_widths v.emulator.init;
}

-- what a room is made for
abbrev pub made_for : Room → RoomSizes
made_for r = record {
  scratch = r.scratch;
  outputs = vec_len r.outputs;
  mask = r.widths.mask.items;
  zeros = r.widths.zeros;
  factory_noise = r.widths.factory_noise.items;
  noise = r.widths.noise.items;
  fields = r.widths.fields.items;
  persistent = r.widths.persistent.items;
  persistent_roms = r.widths.persistent_roms.items;
  emu = r.widths.emu.items;
}

-- the state of the run in a room; no emulator has a copy of the circuit yet
abbrev pub state_in : Room → State
state_in r = record { fields = r.fields; cells = r.device.words; emu = r.emulator; copy = [] }
