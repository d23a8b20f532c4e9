-- Which emulator the trees of a text mean: (emulator (field x w n) .. (power (local x w) .. stmt
-- ..) (outputs (x e) ..) (tick (local x w) .. stmt ..)), where each part may be left out.
use Rattle.std.specs.Prelude.{ℕ, nat_le, false, if◌then◌else◌, List, [], ◌∷◌, ◌++◌, map, codes, Result, Ok}
use Rattle.knox_text.specs.declared.place.Place.{Place}
use Rattle.knox_sexpr.specs.declared.tree.Tree.{Tree}
use Rattle.knox_words.specs.Bits.{word_or}
use Rattle.knox_circuit.specs.declared.port.Port.{Port}
use Rattle.knox_circuit.specs.declared.port.Cell.{Cell}
use Rattle.knox_circuit.specs.Ports.{inputs_of, outputs_of, input_widths, output_widths}
use Rattle.knox_circuit.specs.Circuit.{Circuit}
use Rattle.knox_circuit.specs.Cells.{cells_of, noise_cells}
use Rattle.emu_machine.specs.Fields.{cell_field}
use Rattle.knox_lang.specs.declared.expr.Expr.{Expr}
use Rattle.knox_lang.specs.declared.expr.Expr.TheVariants.{Lit}
use Rattle.knox_lang.specs.declared.expr.Space.TheVariants.{Own}
use Rattle.knox_lang.specs.declared.expr.Space.TheVariants as spaces
use Rattle.knox_lang.specs.declared.parts.Field.{Field}
use Rattle.knox_lang.specs.declared.parts.OpHead.{OpHead}
use Rattle.knox_lang.specs.declared.parts.Body.{Body}
use Rattle.knox_lang.specs.declared.parts.SpecParts.{SpecParts}
use Rattle.knox_lang.specs.declared.parts.DriverParts.{DriverParts}
use Rattle.knox_lang.specs.declared.parts.EmuParts.{EmuParts}
use Rattle.knox_lang.specs.WellFormed.{emulator_fits}
use Rattle.expr_read.specs.declared.faults.LangWhy.TheVariants.{Form, Width, Bound, Missing}
use Rattle.expr_read.specs.declared.faults.LangFault.{LangFault}
use Rattle.expr_read.specs.declared.names.Group.TheVariants.{Output}
use Rattle.expr_read.specs.declared.names.Named.{Named}
use Rattle.expr_read.specs.declared.fields.Fields.{Fields}
use Rattle.expr_read.specs.Views.{◌>>=◌, fails, place_of, parts_of, is_headed, behind_head, no_more, each}
use Rattle.expr_read.specs.Names.{and_last, field_names, port_names, word_names}
use Rattle.expr_read.specs.Fields.{fields_of}
use Rattle.expr_read.specs.Expressions.{expr_of_width}
use Rattle.lang_read.specs.declared.emulator.Bodies.{Bodies}
use Rattle.lang_read.specs.declared.emulator.Outside.{Outside}
use Rattle.lang_read.specs.declared.statement.Home.TheVariants.{Plain, Emulator}
use Rattle.lang_read.specs.Entries.{front, behind_front, form_trees, behind_form, new_entry, filled}
use Rattle.lang_read.specs.Bodies.{empty_body, silent_body}

-- ---- outputs

-- an expression that stands in no body has a cost of its own that is limited
abbrev pub alone : Tree → ℕ → List Named → Result Expr LangFault
alone t w names = expr_of_width t w names >>= λ x. if nat_le x.cost 1000000 then Ok x.expr else fails (place_of t) Bound

abbrev pub entered : List Named → List Named → List (ℕ × Expr) → Tree → Tree → Result (ℕ × Expr) LangFault
entered outs names before x e = do
  s ← new_entry Output outs before x
  value ← alone e s.width names
  Ok (s.slot.number, value)

-- (x e)
abbrev pub entry_in : List Named → List Named → Place → List (ℕ × Expr) → List Tree → Result (ℕ × Expr) LangFault
entry_in outs names at before (x ∷ e ∷ []) = entered outs names before x e
entry_in outs names at before parts = fails at Form

abbrev pub outputs_entry : List Named → List Named → List (ℕ × Expr) → Tree → Result (ℕ × Expr) LangFault
outputs_entry outs names before t = parts_of t >>= λ ts. entry_in outs names (place_of t) before ts

-- the entries of an `outputs` list, whose expressions see the names
abbrev pub entries : List Named → List Named → List Tree → Result (List (ℕ × Expr)) LangFault
entries outs names ts = each (outputs_entry outs names) and_last [] ts

-- an output without an entry is 0
abbrev pub zero_outputs : List Port → List Expr
zero_outputs ps = map (λ (p : Port). Lit (word_or p.width 0)) ps

-- the expressions of all outputs in line order, by the `outputs` form at the front
abbrev pub shown_by : List Named → List Port → List Tree → Result (List Expr) LangFault
shown_by names ports ts = do
  trees ← form_trees (codes "outputs") ts
  es ← entries (port_names spaces.Output 0 ports) names trees
  Ok (filled es (zero_outputs ports))

-- ---- parts

-- the names that outputs see: fields and inputs
abbrev pub scope : List Field → List Port → List Named
scope fields inputs = field_names Own fields ++ port_names spaces.Input 0 inputs

-- the names that a power-on sees: fields and words of noise
abbrev pub power_scope : List Field → List Cell → List Named
power_scope fields noise = field_names Own fields ++ word_names spaces.Noise noise

-- ---- power-on and tick

abbrev pub power_in : List Named → Tree → Result Body LangFault
power_in names t = behind_head (codes "power") t >>= λ ts. silent_body Plain names (place_of t) ts

-- a `power` form may stand at the front; without it nothing happens at power-on
abbrev pub power_of : List Named → List Tree → Result Body LangFault
power_of names [] = Ok empty_body
power_of names (t ∷ ts) = if is_headed (codes "power") t then power_in names t else Ok empty_body

abbrev pub tick_in : List Named → List OpHead → Tree → Result Body LangFault
tick_in names ops t = behind_head (codes "tick") t >>= λ ts. silent_body (Emulator ops) names (place_of t) ts

-- a `tick` form alone may stand behind `outputs`; without it a tick does nothing
abbrev pub tick_of : List Named → List OpHead → List Tree → Result Body LangFault
tick_of names ops [] = Ok empty_body
tick_of names ops (t ∷ ts) = do
  body ← tick_in names ops t
  done ← no_more ts
  Ok body

-- ---- the emulator

-- what stands behind the fields: a power-on sees other names than outputs and tick
abbrev pub all_bodies : List Named → List Named → List Port → List OpHead → List Tree → Result Bodies LangFault
all_bodies powered names outs ops ts = do
  power ← power_of powered ts
  exprs ← shown_by names outs (behind_form (codes "power") ts)
  tick ← tick_of names ops (behind_form (codes "outputs") (behind_form (codes "power") ts))
  Ok (record { power = power; outputs = exprs; tick = tick })

-- what an emulator has of a circuit and a specification, over the states that have words of noise
abbrev pub outside_of : Circuit → SpecParts → List Cell → Outside
outside_of c s noise = record { ins = input_widths c.lines; outs = output_widths c.lines; noise = map cell_field noise; cells = map cell_field (cells_of c.lines); ops = s.ops }

-- the parts of an emulator that has no copy of the circuit
abbrev pub together : Outside → Fields → Bodies → EmuParts
together o fs bs = record { fields = fs.fields; init = fs.init; copy = false; ins = o.ins; outs = o.outs; noise = o.noise; cells = o.cells; funs = []; ops = o.ops; power = bs.power; outputs = bs.outputs; tick = bs.tick }

abbrev pub bodies_behind : Circuit → SpecParts → List Cell → List Field → List Tree → Result Bodies LangFault
bodies_behind c s noise fields ts = all_bodies (power_scope fields noise) (scope fields (inputs_of c.lines)) (outputs_of c.lines) s.ops ts

-- fields at the front, and then the bodies
abbrev pub emulator_in : Circuit → SpecParts → List Cell → List Tree → Result EmuParts LangFault
emulator_in c s noise ts = do
  fs ← fields_of (front (codes "field") ts)
  bs ← bodies_behind c s noise fs.fields (behind_front (codes "field") ts)
  Ok (together (outside_of c s noise) fs bs)

abbrev pub emulator_made : Place → EmuParts → Result EmuParts LangFault
emulator_made at p = if emulator_fits p then Ok p else fails at Width

-- the emulator of a tree. The driver says which cells are persistent: those have no noise
abbrev pub emulator_at : Circuit → SpecParts → DriverParts → Tree → Result EmuParts LangFault
emulator_at c s d t = do
  ts ← behind_head (codes "emulator") t
  p ← emulator_in c s (noise_cells c.lines d.keep) ts
  emulator_made (place_of t) p

-- the same where other trees follow, of which there must be none
abbrev pub emulator_of : Circuit → SpecParts → DriverParts → Tree → List Tree → Result EmuParts LangFault
emulator_of c s d t more = do
  p ← emulator_at c s d t
  done ← no_more more
  Ok p

-- the emulator of the trees of a text that ends at a place
abbrev pub emulator_text : Circuit → SpecParts → DriverParts → Place → List Tree → Result EmuParts LangFault
emulator_text c s d end [] = fails end Missing
emulator_text c s d end (t ∷ ts) = emulator_of c s d t ts
