-- What a circuit keeps of its lines. Only its own invariant cites it.
use Rattle.std.specs.Prelude.{◌≡◌, ◌≤◌, List, None, length}
use Rattle.circuit_table.specs.declared.line.Line.{Line}
use Rattle.circuit_table.specs.Rows.{rows_of, AreRuled}
use Rattle.circuit_nodes.specs.Logic.{IsLogic}
use Rattle.circuit_nodes.specs.Ticks as ticks
use Rattle.circuit_nodes.specs.Starts.{AreWithin, AreApart}
use Rattle.knox_circuit.specs.declared.made.Tables.{Tables}
use Rattle.knox_circuit.specs.declared.made.Places.{Places}
use Rattle.knox_circuit.specs.declared.made.Plan.{Plan}
use Rattle.knox_circuit.specs.declared.made.Roms.{Roms}
use Rattle.knox_circuit.specs.declared.made.Made.{Made}
use Rattle.knox_circuit.specs.Circuit.{unfed}
use Rattle.knox_circuit.specs.Ports.{inputs_of, outputs_of, input_widths, output_widths}
use Rattle.knox_circuit.specs.Cells.{states_of, cells_of, bares_of, state_widths, words_in, all_words}
use Rattle.knox_circuit.specs.Parts.{Parts, parts_of}
use Rattle.knox_circuit.specs.Rom.{rom_words, free_mask}

pub record IsTables (lines : List Line) (t : Tables) : Type 0 where
  pub inputs : t.inputs ≡ inputs_of lines
  pub outputs : t.outputs ≡ outputs_of lines
  pub input_widths : t.input_widths.items ≡ input_widths lines
  pub output_widths : t.output_widths.items ≡ output_widths lines

pub record IsPlaces (lines : List Line) (t : Places) : Type 0 where
  pub states : t.states ≡ states_of lines
  pub cells : t.cells ≡ cells_of lines
  pub bares : t.bares ≡ bares_of lines
  pub widths : t.widths.items ≡ state_widths (cells_of lines)

-- what is evaluated
pub record IsPlan (p : Parts) (plan : Plan) : Type 0 where
  pub nodes : plan.nodes ≡ p.nodes
  pub states : plan.states ≡ p.states
  pub logic : IsLogic plan.logic p.nodes p.outputs p.nexts
  pub cells : plan.cells ≡ p.cells
  pub widths : plan.widths.items ≡ p.widths

pub record IsRoms (lines : List Line) (r : Roms) : Type 0 where
  pub words : r.words.items ≡ rom_words lines
  pub free : r.free.items ≡ free_mask (rom_words lines)

-- what all this has in common with the lines
pub record AreCounted (lines : List Line) (m : Made) : Type 0 where
  pub states : all_words m.places.states ≤ 2000000
  pub cells : words_in m.places.cells ≤ 2000000
  pub nodes : length m.plan.logic.nodes ≤ length lines
  pub outputs : length m.plan.logic.outputs ≡ length (outputs_of lines)
  pub nexts : ticks.words_in m.plan.logic.nexts ≡ words_in (cells_of lines)
  pub words : m.plan.cells ≡ words_in (cells_of lines)
  pub front : m.plan.cells ≤ length m.plan.widths.items
  pub within : AreWithin m.plan.states (length m.plan.widths.items)
  pub apart : AreApart m.plan.nodes m.plan.states
  pub roms : length m.roms.words.items ≡ words_in (cells_of lines)

pub record IsMade (lines : List Line) (m : Made) : Type 0 where
  pub tables : IsTables lines m.tables
  pub places : IsPlaces lines m.places
  pub plan : IsPlan (parts_of (rows_of lines)) m.plan
  pub roms : IsRoms lines m.roms
  pub counted : AreCounted lines m

-- lines that obey the rules, and what is kept of them
pub record IsCircuit (lines : List Line) (m : Made) : Type 0 where
  pub ruled : AreRuled lines
  pub fed : unfed lines ≡ None
  pub made : IsMade lines m
