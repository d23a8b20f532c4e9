-- Which driver the trees of a text mean: (driver (persistent x ..) (idle (x n) ..) (call op (local
-- x w) .. stmt .. (result e)) ..), where the first two may be left out, and calls stand in any
-- order. Each operation has one call. The languages aren't read whole yet, so that a call may stand
-- in a form that isn't read: one that is missing is told where all else is read, and no fault stands
-- behind it.
use Rattle.std.specs.Prelude.{◌≡◌, ℕ, suc, ◌==◌, Bool, true, false, if◌then◌else◌, List, [], ◌∷◌, map, codes, Result, Ok}
use Rattle.knox_text.specs.declared.place.Place.{Place}
use Rattle.knox_sexpr.specs.declared.tree.Tree.{Tree}
use Rattle.knox_words.specs.Bits.{Bits, bits, is_word, word_or}
use Rattle.knox_circuit.specs.declared.port.Port.{Port}
use Rattle.knox_circuit.specs.declared.port.Cell.{Cell}
use Rattle.knox_circuit.specs.Ports.{inputs_of, outputs_of, output_widths}
use Rattle.knox_circuit.specs.Circuit.{Circuit}
use Rattle.knox_circuit.specs.Cells.{cells_of}
use Rattle.knox_lang.specs.declared.expr.Space.TheVariants.{Input, Output}
use Rattle.knox_lang.specs.declared.parts.OpHead.{OpHead}
use Rattle.knox_lang.specs.declared.parts.Body.{Body}
use Rattle.knox_lang.specs.declared.parts.SpecParts.{SpecParts}
use Rattle.knox_lang.specs.declared.parts.DriverParts.{DriverParts}
use Rattle.knox_lang.specs.WellFormed.{driver_fits}
use Rattle.expr_read.specs.declared.faults.LangWhy.TheVariants.{Form, Twice, Width, Missing}
use Rattle.expr_read.specs.declared.faults.LangFault.{LangFault}
use Rattle.expr_read.specs.declared.names.Group.TheVariants.{Device}
use Rattle.expr_read.specs.declared.names.Group.TheVariants as groups
use Rattle.expr_read.specs.declared.names.Named.{Named}
use Rattle.expr_read.specs.declared.names.Seen.{Seen}
use Rattle.expr_read.specs.Views.{◌>>=◌, fails, place_of, number_of, parts_of, behind_head, no_more, each}
use Rattle.expr_read.specs.Names.{seen_of, cell_names, port_names, and_last}
use Rattle.lang_read.specs.declared.statement.Home.TheVariants.{Driver}
use Rattle.lang_read.specs.Entries.{form_trees, behind_form, new_entry, filled}
use Rattle.lang_read.specs.Calls.{calls_of, bodies_of, all_called}

-- ---- (persistent x ..)

abbrev pub is_among : ℕ → List ℕ → Bool
is_among k [] = false
is_among k (n ∷ ns) = if n == k then true else is_among k ns

-- the number of the cell that a tree names
abbrev pub cell_of : List Named → Tree → Result ℕ LangFault
cell_of names t = seen_of Device t names >>= λ s. Ok s.slot.number

-- a cell that none before it is
abbrev pub new_cell : List Named → List ℕ → Tree → Result ℕ LangFault
new_cell names before t = do
  k ← cell_of names t
  if is_among k before then fails (place_of t) Twice else Ok k

-- the numbers of the cells that trees name
abbrev pub named_cells : List Named → List Tree → Result (List ℕ) LangFault
named_cells names ts = each (new_cell names) and_last [] ts

-- whether each cell is among those, the first of some number
abbrev pub keep_from : ℕ → List Cell → List ℕ → List Bool
keep_from k [] kept = []
keep_from k (c ∷ cs) kept = is_among k kept ∷ keep_from (suc k) cs kept

-- which cells are persistent, by the names of a `persistent` list
abbrev pub persistent : List Cell → List Tree → Result (List Bool) LangFault
persistent cells ts = named_cells (cell_names 0 cells) ts >>= λ kept. Ok (keep_from 0 cells kept)

abbrev pub keep_of : List Cell → List Tree → Result (List Bool) LangFault
keep_of cells ts = form_trees (codes "persistent") ts >>= λ names. persistent cells names

-- ---- (idle (x n) ..)

-- the idle word of an input, and the input's number
abbrev pub idle_word : Seen → Place → ℕ → Result (ℕ × Bits) LangFault
idle_word s at n = if is_word (bits s.width n) then Ok (s.slot.number, bits s.width n) else fails at Width

abbrev pub idled : List Named → List (ℕ × Bits) → Tree → Tree → Result (ℕ × Bits) LangFault
idled inputs before x n = do
  s ← new_entry groups.Input inputs before x
  value ← number_of n
  idle_word s (place_of n) value

abbrev pub idle_in : List Named → Place → List (ℕ × Bits) → List Tree → Result (ℕ × Bits) LangFault
idle_in inputs at before (x ∷ n ∷ []) = idled inputs before x n
idle_in inputs at before ts = fails at Form

abbrev pub idle_entry : List Named → List (ℕ × Bits) → Tree → Result (ℕ × Bits) LangFault
idle_entry inputs before t = parts_of t >>= λ ts. idle_in inputs (place_of t) before ts

abbrev pub idle_entries : List Named → List Tree → Result (List (ℕ × Bits)) LangFault
idle_entries inputs ts = each (idle_entry inputs) and_last [] ts

abbrev pub zero_words : List Port → List Bits
zero_words ps = map (λ (p : Port). word_or p.width 0) ps

-- an input without an entry idles at 0
abbrev pub idle_of : List Port → List Tree → Result (List Bits) LangFault
idle_of inputs ts = do
  trees ← form_trees (codes "idle") ts
  es ← idle_entries (port_names Input 0 inputs) trees
  Ok (filled es (zero_words inputs))

-- ---- the driver

-- the bodies of a driver's calls, which set inputs and see outputs
abbrev pub bodies : Circuit → List OpHead → List Tree → Result (List Body) LangFault
bodies c ops ts =
    calls_of (Driver (port_names Input 0 (inputs_of c.lines))) ops (port_names Output 0 (outputs_of c.lines)) ts >>= λ es. Ok (bodies_of ops es)

abbrev pub together : Circuit → List Bool → List Bits → List OpHead → List Body → DriverParts
together c keep idle ops bs = record { idle = idle; keep = keep; outs = output_widths c.lines; funs = []; ops = ops; bodies = bs }

-- what stands in a driver's list
abbrev pub driver_in : Circuit → List OpHead → List Tree → Result DriverParts LangFault
driver_in c ops ts = do
  keep ← keep_of (cells_of c.lines) ts
  idle ← idle_of (inputs_of c.lines) (behind_form (codes "persistent") ts)
  bs ← bodies c ops (behind_form (codes "idle") (behind_form (codes "persistent") ts))
  Ok (together c keep idle ops bs)

-- a call that is missing is a fault of the whole list, which is at a place
abbrev pub complete : Place → List OpHead → List Tree → Result (Unit {0}) LangFault
complete at ops ts = if all_called ops ts then Ok tt else fails at Missing

abbrev pub made : Place → DriverParts → Result DriverParts LangFault
made at p = if driver_fits p then Ok p else fails at Width

-- the driver of a tree, where other trees follow
abbrev pub driver_of : Circuit → SpecParts → Tree → List Tree → Result DriverParts LangFault
driver_of c s t more = do
  ts ← behind_head (codes "driver") t
  parts ← driver_in c s.ops ts
  done ← no_more more
  whole ← complete (place_of t) s.ops ts
  made (place_of t) parts

-- the driver of the trees of a text that ends at a place. A text without a tree isn't in the form:
-- what is missing stands at the first parenthesis, of which it has none.
abbrev pub driver_text : Circuit → SpecParts → Place → List Tree → Result DriverParts LangFault
driver_text c s end [] = fails end Form
driver_text c s end (t ∷ ts) = driver_of c s t ts

-- ---- a call that is missing

-- trees are one driver, whose list is at a place, and all of it is read but for the call of some operation
pub record LacksCall (c : Circuit) (s : SpecParts) (ts : List Tree) (at : Place) : Type 0 where
  pub tree : Tree
  pub alone : ts ≡ tree ∷ []
  pub place : at ≡ place_of tree
  pub inner : List Tree
  pub begins : behind_head (codes "driver") tree ≡ Ok inner
  pub parts : DriverParts
  pub read : driver_in c s.ops inner ≡ Ok parts
  pub lacking : all_called s.ops inner ≡ false
