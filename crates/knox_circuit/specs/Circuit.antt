-- Circuits, as contracts see them; and the room for evaluating one.
-- Standard: the transition of a BTOR2 model (Niemetz, Preiner, Wolf and Biere, CAV 2018).
use Rattle.std.specs.Prelude.{ℕ, ◌&&◌, ◌==◌, List, [], length, map, take, slice_get, Bool, Option, Some, None}
use Rattle.knox_words.specs.Bits.{Bits}
use Rattle.knox_words.specs.Lists.{fit, zeros_or}
use Rattle.circuit_table.specs.declared.line.Line.{Line}
use Rattle.circuit_table.specs.Rows.{rows_of}
use Rattle.circuit_table.specs.Whole.{unfed_among}
use Rattle.circuit_nodes.specs.Values.{given, value_at, arg_word}
use Rattle.circuit_nodes.specs.Ticks.{ticked}
use Rattle.circuit_nodes.specs.Starts.{built}
use Rattle.knox_circuit.specs.Parts.{Parts, parts_of}
use Rattle.knox_circuit.specs.Cells.{cells_of, noise_widths, words_in}

-- a circuit is its lines, in the order of the text
pub record Circuit : Type 0 where
  pub lines : List Line

-- the output words in line order, in a state under inputs
abbrev pub output_words : List Line → List Bits → List Bits → List Bits
output_words lines state inputs = outputs_by (parts_of (rows_of lines)) where
  outputs_by : Parts → List Bits
  outputs_by p = map (arg_word (value_at (given inputs state) p.nodes (length p.nodes))) p.outputs

-- the device words after a tick: every cell takes the value of its `next` at once
abbrev pub state_after_tick : List Line → List Bits → List Bits → List Bits
state_after_tick lines state inputs = ticked_by (parts_of (rows_of lines)) where
  ticked_by : Parts → List Bits
  ticked_by p = ticked (value_at (given inputs state) p.nodes (length p.nodes)) p.nexts

-- the device words after a power-cycle; `keep` has one truth value for each cell
abbrev pub state_after_power : List Line → List Bool → List Bits → List Bits → List Bits
state_after_power lines keep old noise = powered_by (parts_of (rows_of lines)) where
  powered_by : Parts → List Bits
  powered_by p = take p.cells (built p.nodes p.states keep old noise (zeros_or p.widths))

-- the factory state: nothing is kept
abbrev pub factory_state : List Line → List Bits → List Bits
factory_state lines noise = state_after_power lines [] [] noise

-- whether noise words fit a power-cycle that keeps some cells
abbrev pub fits_noise : List Line → List Bool → List Bits → Bool
fits_noise lines keep noise = length keep == length (cells_of lines) && fit (noise_widths lines keep) noise

-- how many nodes, device words and places of nodes a scratch area is for
pub record Sizes : Type 0 where
  pub nodes : ℕ
  pub words : ℕ
  pub places : ℕ

abbrev pub sizes_of : List Line → Sizes
sizes_of lines = record { nodes = length lines; words = words_in (cells_of lines); places = length lines }

abbrev pub line_at : List Line → Option ℕ → Option Line
line_at lines None = None
line_at lines (Some k) = slice_get lines k

-- the first line that breaks the rule of a whole circuit
abbrev pub unfed : List Line → Option Line
unfed lines = line_at lines (unfed_among (rows_of lines) (length (rows_of lines)))
