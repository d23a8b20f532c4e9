-- The store's programs as plain functions of the words, without expressions: they compute.
use Rattle.std.proofs.Common.{ℕ, zero, suc, ◌==◌, List, [], ◌∷◌, slice_get, slice_set, if◌then◌else◌, Bool, true, false}
use Rattle.knox_words.specs.Bits.{Bits, bits, word_at}
use Rattle.knox_words.specs.Ops.{op1_value, op2_or}
use Rattle.knox_words.specs.Lists.{Words}
use Rattle.knox_words.specs.declared.op.Op1.TheVariants.{Not}
use Rattle.knox_words.specs.declared.op.Op2.TheVariants.{Eq}
use Rattle.knox_theory.specs.Device.{Reply, Replied, OutOfTurns, Asking, Ask, Ended, Device}
use Rattle.knox_theory.specs.Design.{Design}
use Rattle.knox_circuit.specs.Line.{Line}
use Rattle.knox_circuit.specs.Cells.{cells_of, state_widths, noise_widths, keep_mask}
use Rattle.knox_circuit.specs.Ports.{input_widths}
use Rattle.knox_circuit.specs.Circuit.{output_words, state_after_tick, state_after_power, factory_state}
use Rattle.knox_circuit.specs.Rom.{rom_words}
use Rattle.knox_words.specs.Lists.{pick, merge, zeros_or}
use Rattle.device_design.specs.Roms.{rom_part}
use Rattle.knox_lang.specs.declared.expr.Stmt.{Stmt}
use Rattle.driver_machine.specs.Left.{Left, start, ended, reply}
use Rattle.driver_machine.specs.Moves.{move, move_tests, ticks_left}
use Rattle.driver_machine.specs.Fits.{fits_config}
use Rattle.device_design.specs.Meaning.{head_result, persistent_roms}
use Rattle.pin_store.specs.Store.{set_head, check_head, driver_with}

-- ---- the specification: what is replied, and the fields afterwards

abbrev pub result_of : (op : ℕ) (args fields : Words) → Bits
result_of zero args fields = bits 1 1
result_of (suc zero) args fields = op2_or Eq (word_at args 0) (word_at fields 0)
result_of (suc (suc o)) args fields = bits 1 0

abbrev pub fields_after : (op : ℕ) (args fields : Words) → Words
fields_after zero args fields = slice_set fields 0 (word_at args 0)
fields_after (suc o) args fields = fields

-- ---- the driver

-- the inputs under a command
abbrev pub under : (command : ℕ) (args : Words) → Words
under n args = bits 2 n ∷ word_at args 0 ∷ []

-- what is shown under inputs, and whether that is 0
abbrev pub answer : List Line → (cells ins : Words) → Bits
answer ls cells ins = word_at (output_words ls cells ins) 0

abbrev pub is_silent : List Line → (cells ins : Words) → Bool
is_silent ls cells ins = (op1_value Not (answer ls cells ins)).value == 1

-- an answer that doesn't wait, and one that is out of turns where nothing is shown
abbrev pub at_once : Bool → Reply
at_once silent = Replied (bits 1 1)

abbrev pub in_time : Bool → Reply
in_time silent = if silent then OutOfTurns else Replied (bits 1 1)

-- the cells after a command, and what is replied then
abbrev pub told : List Line → (command : ℕ) (args cells : Words) → Words
told ls n args cells = state_after_tick ls cells (under n args)

abbrev pub driven : List Line → (Bool → Reply) → (op : ℕ) (args cells : Words) → Reply × Words
driven ls waits zero args cells = (waits (is_silent ls (told ls 1 args cells) (under 1 args)), told ls 1 args cells)
driven ls waits (suc zero) args cells = (Replied (answer ls (told ls 2 args cells) (under 2 args)), told ls 2 args cells)
driven ls waits (suc (suc o)) args cells = (OutOfTurns, cells)

-- ---- the emulator

-- its words after a power-cycle: the answer is 0, or it is the noise
abbrev pub silence : (noise : Words) → Words
silence noise = bits 1 0 ∷ []

abbrev pub the_noise : (noise : Words) → Words
the_noise noise = word_at noise 0 ∷ []

abbrev pub outs : (emu : Words) → Words
outs emu = word_at emu 0 ∷ []

abbrev pub commands : ℕ → (ins : Words) → Bool
commands n ins = (op2_or Eq (word_at ins 0) (bits 2 n)).value == 1

abbrev pub ends : (emu : Words) → Bits → Asking
ends emu r = Ended (slice_set emu 0 r) []

-- asks whether the data is the secret, where the command is 2; and before that sets the secret, where it is 1
abbrev pub checks : (emu ins : Words) → Asking
checks emu ins = if commands 2 ins then Ask 1 (word_at ins 1 ∷ []) (λ r. ends emu r) else ends emu (bits 1 0)

abbrev pub tick : (emu ins : Words) → Asking
tick emu ins = if commands 1 ins then Ask 0 (word_at ins 1 ∷ []) (λ q. checks emu ins) else checks emu ins

-- ---- what they are together with a circuit

abbrev pub keep : List Bool
keep = true ∷ false ∷ []

-- the widths of the arguments of an operation
abbrev pub args_of : (width op : ℕ) → List ℕ
args_of w zero = w ∷ []
args_of w (suc zero) = w ∷ []
args_of w (suc (suc o)) = []

module _ (w : ℕ) (ls : List Line) (waits : Bool → Reply) where
  -- by the words that the emulator has after power-on
  abbrev pub plain_device : (emulator : Words → Words) → Device
  plain_device emulator = record {
    noise = noise_widths ls keep;
    factory_noise = noise_widths ls [];
    ins = input_widths ls;
    ops = 2;
    args = λ o. args_of w o;
    idle = bits 2 0 ∷ bits w 0 ∷ [];
    factory = λ noise. factory_state ls noise;
    persistent_of = λ cells. pick (keep_mask (cells_of ls) keep) cells;
    power = λ persistent noise. state_after_power ls keep (merge (keep_mask (cells_of ls) keep) (zeros_or (state_widths (cells_of ls))) persistent) noise;
    outs = λ cells ins. output_words ls cells ins;
    tick = λ cells ins. state_after_tick ls cells ins;
    drive = λ o args cells. driven ls waits o args cells;
    initial = bits w 0 ∷ [];
    op = λ o args fields. (result_of o args fields, fields_after o args fields);
    first_kept = [];
    emu_power = λ noise kept. (emulator noise, []);
    kept_of = λ emu. [];
    emu_outs = λ emu copy ins. outs emu;
    emu_tick = λ emu copy ins. tick emu ins;
  }

  -- its moves are those of the driver: what they come to is said by `driven`
  abbrev pub plain_design : (more : List Stmt) → Design Left
  plain_design more = record {
    device = plain_device silence;
    fields = w ∷ [];
    result = λ o. head_result (slice_get (set_head w ∷ check_head w ∷ []) o);
    cells = rom_part (rom_words ls) (state_widths (cells_of ls));
    persistent = rom_part (persistent_roms ls keep) (pick (keep_mask (cells_of ls) keep) (state_widths (cells_of ls)));
    emu = 1 ∷ [];
    copy = rom_part [] [];
    kept = [];
    start = λ o args cells. start (driver_with more w) o args cells;
    move = λ x. move ls (driver_with more w) x;
    move_tests = λ x. move_tests ls (driver_with more w) x;
    ended = λ x. ended x;
    ticks_left = λ x. ticks_left x;
    reply = λ left. reply left;
    fits_config = λ o x. fits_config ls (driver_with more w) o x;
  }
