-- The device that a circuit, a specification, a driver and an emulator are, for the two worlds; and its design, for scripts.
-- The project's own. Everybody must believe `device_of`: it is what the parts of a yes are. Nobody has to believe `design_of` for a yes.
use Rattle.std.specs.Prelude.{ℕ, List, [], length, slice_get, Bool, Option, Some, None}
use Rattle.knox_words.specs.Bits.{Bits}
use Rattle.knox_words.specs.Lists.{pick, merge, zeros_or}
use Rattle.knox_theory.specs.Device.{Device}
use Rattle.knox_theory.specs.Design.{Design}
use Rattle.knox_circuit.specs.Line.{Line}
use Rattle.knox_circuit.specs.Circuit.{Circuit, output_words, state_after_tick, factory_state, state_after_power}
use Rattle.knox_circuit.specs.Ports.{input_widths}
use Rattle.knox_circuit.specs.Rom.{rom_words}
use Rattle.knox_circuit.specs.Cells.{cells_of, state_widths, noise_widths, keep_mask}
use Rattle.knox_lang.specs.declared.parts.OpHead.{OpHead}
use Rattle.knox_lang.specs.declared.parts.SpecParts.{SpecParts}
use Rattle.knox_lang.specs.declared.parts.DriverParts.{DriverParts}
use Rattle.knox_lang.specs.declared.parts.EmuParts.{EmuParts}
use Rattle.knox_lang.specs.Operation.{op_after, op_result, arg_widths}
use Rattle.knox_lang.specs.WellFormed.{word_widths}
use Rattle.driver_machine.specs.Drive.{drive}
use Rattle.driver_machine.specs.Left.{Left, start, ended, reply}
use Rattle.driver_machine.specs.Moves.{move, move_tests, ticks_left}
use Rattle.driver_machine.specs.Fits.{fits_config}
use Rattle.device_design.specs.Roms.{rom_part}
use Rattle.emu_machine.specs.Emulator.{emulator_outputs, emulator_after_power}
use Rattle.emu_machine.specs.Dialogue.{tick_dialogue}

-- the widths of the arguments of an operation, and of its result; none where there is no such operation
abbrev pub head_args : Option OpHead → List ℕ
head_args None = []
head_args (Some h) = arg_widths h

abbrev pub head_result : Option OpHead → ℕ
head_result None = 0
head_result (Some h) = h.result

-- The device. A power-cycle is one of the device words that have the persistent words in their cells and zeros elsewhere: nothing else is left of them.
-- A call of an operation is what the driver's body for it does to the circuit.
unfoldable pub device_of : Circuit → SpecParts → DriverParts → EmuParts → Device
device_of c s d e = record {
  noise = noise_widths c.lines d.keep;
  factory_noise = noise_widths c.lines [];
  ins = input_widths c.lines;
  ops = length s.ops;
  args = λ o. head_args (slice_get s.ops o);
  idle = d.idle;
  factory = λ noise. factory_state c.lines noise;
  persistent_of = λ cells. pick (keep_mask (cells_of c.lines) d.keep) cells;
  power = λ persistent noise. state_after_power c.lines d.keep (merge (keep_mask (cells_of c.lines) d.keep) (zeros_or (state_widths (cells_of c.lines))) persistent) noise;
  outs = λ cells ins. output_words c.lines cells ins;
  tick = λ cells ins. state_after_tick c.lines cells ins;
  drive = λ o args cells. drive c.lines d o args cells;
  initial = s.init;
  op = λ o args fields. (op_result s o fields args, op_after s o fields args);
  first_kept = [];
  emu_power = λ noise kept. (emulator_after_power e noise, []);
  kept_of = λ emu. [];
  emu_outs = λ emu copy ins. emulator_outputs e emu ins;
  emu_tick = λ emu copy ins. tick_dialogue e emu ins;
}

-- what is known of the persistent words
abbrev pub persistent_roms : List Line → List Bool → List (Option Bits)
persistent_roms lines keep = pick (keep_mask (cells_of lines) keep) (rom_words lines)

-- the design: the widths of all words, of which the ROM words are never taken, and the driver as what is left of its body, which moves from tick to tick
unfoldable pub design_of : Circuit → SpecParts → DriverParts → EmuParts → Design Left
design_of c s d e = record {
  device = device_of c s d e;
  fields = word_widths s.init;
  result = λ o. head_result (slice_get s.ops o);
  cells = rom_part (rom_words c.lines) (state_widths (cells_of c.lines));
  persistent = rom_part (persistent_roms c.lines d.keep) (pick (keep_mask (cells_of c.lines) d.keep) (state_widths (cells_of c.lines)));
  emu = word_widths e.init;
  copy = rom_part [] [];
  kept = [];
  start = λ o args cells. start d o args cells;
  move = λ x. move c.lines d x;
  move_tests = λ x. move_tests c.lines d x;
  ended = λ x. ended x;
  ticks_left = λ x. ticks_left x;
  reply = λ left. reply left;
  fits_config = λ o x. fits_config c.lines d o x;
}
