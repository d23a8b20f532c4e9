-- What the theorem asks of a design: that words fit wherever words that fit go in, and the laws that are marked. They are proved of each design.
-- The project's own. Nobody has to believe it for a yes: it is a premise of the theorem, shown once for all texts.
use Rattle.std.specs.Prelude.{◌≡◌, ℕ, ◌<◌, [], true}
use Rattle.knox_words.specs.Bits.{Bits}
use Rattle.knox_words.specs.Lists.{Words, fits, fit}
use Rattle.knox_theory.specs.Device.{Asking, Ask, Ended}
use Rattle.knox_theory.specs.Design.{Fits, Config, Design, finish}

pub record IsCircuit {P : Type 0} (d : Design P) : Type 0 where
  pub idle : fit d.device.ins d.device.idle ≡ true
  pub factory : (noise : Words) → fit d.device.factory_noise noise ≡ true → Fits d.cells (d.device.factory noise)
  pub persistent_of : (cells : Words) → Fits d.cells cells → Fits d.persistent (d.device.persistent_of cells)
  pub power : (persistent noise : Words) → Fits d.persistent persistent → fit d.device.noise noise ≡ true → Fits d.cells (d.device.power persistent noise)
  -- LAW: a power-cycle leaves the persistent words as they are
  pub persistent_power : (persistent noise : Words) → Fits d.persistent persistent → fit d.device.noise noise ≡ true →
      d.device.persistent_of (d.device.power persistent noise) ≡ persistent
  pub tick : (cells ins : Words) → Fits d.cells cells → fit d.device.ins ins ≡ true → Fits d.cells (d.device.tick cells ins)

pub record IsSpecification {P : Type 0} (d : Design P) : Type 0 where
  pub initial : fit d.fields d.device.initial ≡ true
  pub op : (o : ℕ) (args fields : Words) → o < d.device.ops → fit (d.device.args o) args ≡ true → fit d.fields fields ≡ true →
      fit d.fields (d.device.op o args fields).1 ≡ true
  pub result : (o : ℕ) (args fields : Words) → o < d.device.ops → fit (d.device.args o) args ≡ true → fit d.fields fields ≡ true →
      fits (d.result o) (d.device.op o args fields).0 ≡ true

pub record IsDriver {P : Type 0} (d : Design P) : Type 0 where
  pub start : (o : ℕ) (args cells : Words) → o < d.device.ops → fit (d.device.args o) args ≡ true → Fits d.cells cells → d.fits_config o (d.start o args cells) ≡ true
  pub move : (o : ℕ) (c : Config P) → d.fits_config o c ≡ true → d.fits_config o (d.move c) ≡ true
  pub config_cells : (o : ℕ) (c : Config P) → d.fits_config o c ≡ true → Fits d.cells c.cells
  -- LAW: a driver at its end stays there and meets no tests, and it comes there by the ticks that are left and one more move
  pub ended_move : (o : ℕ) (c : Config P) → d.fits_config o c ≡ true → d.ended c ≡ true → d.move c ≡ c
  pub ended_tests : (o : ℕ) (c : Config P) → d.fits_config o c ≡ true → d.ended c ≡ true → d.move_tests c ≡ []
  pub ticks_left : (o : ℕ) (c : Config P) → d.fits_config o c ≡ true → d.ended (finish d c) ≡ true
  -- LAW: the moves from the start to the end come to the reply and the cells of the whole body
  pub drive : (o : ℕ) (args cells : Words) → o < d.device.ops → fit (d.device.args o) args ≡ true → Fits d.cells cells →
      d.device.drive o args cells ≡ (d.reply (finish d (d.start o args cells)).left, (finish d (d.start o args cells)).cells)

-- Whatever words of the results' widths are replied, each query is of an operation with words for its arguments, and the words at the end fit.
abbrev pub FitsAsking : {P : Type 0} → Design P → Asking → Type 0
FitsAsking d (Ask o args next) = (o < d.device.ops) × (fit (d.device.args o) args ≡ true) × ((r : Bits) → fits (d.result o) r ≡ true → FitsAsking d (next r))
FitsAsking d (Ended emu copy) = (fit d.emu emu ≡ true) × Fits d.copy copy

pub record IsEmulator {P : Type 0} (d : Design P) : Type 0 where
  pub first_kept : fit d.kept d.device.first_kept ≡ true
  pub emu_power : (noise kept : Words) → fit d.device.noise noise ≡ true → fit d.kept kept ≡ true → fit d.emu (d.device.emu_power noise kept).0 ≡ true
  pub copy_power : (noise kept : Words) → fit d.device.noise noise ≡ true → fit d.kept kept ≡ true → Fits d.copy (d.device.emu_power noise kept).1
  -- LAW: a power-cycle leaves the emulator's kept words as they are
  pub kept_power : (noise kept : Words) → fit d.device.noise noise ≡ true → fit d.kept kept ≡ true → d.device.kept_of (d.device.emu_power noise kept).0 ≡ kept
  pub kept_of : (emu : Words) → fit d.emu emu ≡ true → fit d.kept (d.device.kept_of emu) ≡ true
  pub emu_tick : (emu copy ins : Words) → fit d.emu emu ≡ true → Fits d.copy copy → fit d.device.ins ins ≡ true → FitsAsking d (d.device.emu_tick emu copy ins)

-- a design whose host is never attached owes nothing of its driver
pub record IsWireDesign {P : Type 0} (d : Design P) : Type 0 where
  pub circuit : IsCircuit d
  pub specification : IsSpecification d
  pub emulator : IsEmulator d

pub record IsDesign {P : Type 0} (d : Design P) : Type 0 where
  pub wires : IsWireDesign d
  pub driver : IsDriver d
