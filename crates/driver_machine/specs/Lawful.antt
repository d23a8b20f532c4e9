-- Designs whose driver is that of some parts, on a circuit of some lines: the laws of drivers hold of
-- each. The project's own.
use Rattle.std.specs.Prelude.{◌≡◌, ◌<◌, ℕ, List, slice_get, Some, true}
use Rattle.knox_words.specs.Lists.{Words}
use Rattle.knox_theory.specs.Design.{Design, Config, Fits}
use Rattle.knox_circuit.specs.Line.{Line}
use Rattle.knox_circuit.specs.Rom.{fits_state}
use Rattle.knox_lang.specs.declared.parts.OpHead.{OpHead}
use Rattle.knox_lang.specs.declared.parts.DriverParts.{DriverParts}
use Rattle.knox_lang.specs.Operation.{arg_widths}
use Rattle.driver_machine.specs.Drive.{drive}
use Rattle.driver_machine.specs.Left.{Left, start, ended, reply}
use Rattle.driver_machine.specs.Moves.{move, move_tests, ticks_left}
use Rattle.driver_machine.specs.Fits.{fits_config}

-- the driver has an operation of these arguments
pub record HasOp (d : DriverParts) (op : ℕ) (args : List ℕ) : Type 0 where
  pub head : OpHead
  pub at : slice_get d.ops op ≡ Some head
  pub widths : arg_widths head ≡ args

pub record HasDriver (lines : List Line) (d : DriverParts) (g : Design Left) : Type 0 where
  pub ops : (o : ℕ) → o < g.device.ops → HasOp d o (g.device.args o)
  -- the cells are the device words of the lines, whose ROM words have their one value
  pub cells : (ws : Words) → Fits g.cells ws → fits_state lines ws ≡ true
  pub of_cells : (ws : Words) → fits_state lines ws ≡ true → Fits g.cells ws
  pub drive : (o : ℕ) (args cells : Words) → g.device.drive o args cells ≡ drive lines d o args cells
  pub start : (o : ℕ) (args cells : Words) → g.start o args cells ≡ start d o args cells
  pub move : (c : Config Left) → g.move c ≡ move lines d c
  pub move_tests : (c : Config Left) → g.move_tests c ≡ move_tests lines d c
  pub ended : (c : Config Left) → g.ended c ≡ ended c
  pub ticks_left : (c : Config Left) → g.ticks_left c ≡ ticks_left c
  pub reply : (left : Left) → g.reply left ≡ reply left
  pub fits_config : (o : ℕ) (c : Config Left) → g.fits_config o c ≡ fits_config lines d o c
