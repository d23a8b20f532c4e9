-- The states of a circuit: cells, bare states, and those that take noise words. A cell is a state with
-- a `next`; a bare state has neither `next` nor `init`.
-- Standard: states of BTOR2 (Niemetz, Preiner, Wolf and Biere, CAV 2018). The project's own: the words
-- of a state stand behind those of the states before it, and what takes noise words at a power-cycle.
use Rattle.std.specs.Prelude.{ℕ, ◌+◌, ◌^◌, ◌&&◌, List, [], ◌∷◌, ◌++◌, map, drop, replicate, sum_by, not, Bool, false, Option, Some, None, is_some, if◌then◌else◌}
use Rattle.knox_words.specs.Lists.{pick}
use Rattle.circuit_nodes.specs.declared.node.SortOf.{SortOf}
use Rattle.circuit_nodes.specs.declared.node.SortOf.TheVariants.{Words, Arrays}
use Rattle.circuit_nodes.specs.declared.node.Node.TheVariants as node
use Rattle.circuit_nodes.specs.declared.node.Kind.{Kind}
use Rattle.circuit_nodes.specs.declared.node.Kind.TheVariants as kind
use Rattle.circuit_nodes.specs.declared.node.Row.{Row}
use Rattle.circuit_table.specs.declared.line.Line.{Line}
use Rattle.circuit_table.specs.Rows.{rows_of}
use Rattle.knox_circuit.specs.declared.port.Cell.{Cell}
use Rattle.knox_circuit.specs.declared.port.Role.TheVariants as role
use Rattle.knox_circuit.specs.declared.port.Stored.{Stored}
use Rattle.knox_circuit.specs.Names.{name_among}

-- how many words a word or an array with indices of this width has
abbrev pub size : Option ℕ → ℕ
size None = 1
size (Some i) = 2 ^ i

-- how many words some states have
abbrev pub words_in : List Cell → ℕ
words_in cells = sum_by (λ c. size c.index) cells

-- the widths of the words of some states
abbrev pub state_widths : List Cell → List ℕ
state_widths [] = []
state_widths (c ∷ cs) = replicate (size c.index) c.width ++ state_widths cs

-- ---- all states

abbrev pub sort_width : SortOf → ℕ
sort_width (Words w) = w
sort_width (Arrays i w) = w

abbrev pub sort_index : SortOf → Option ℕ
sort_index (Words w) = None
sort_index (Arrays i w) = Some i

-- the sort of a state
abbrev pub state_sort : Kind → Option SortOf
state_sort (kind.Value t (node.State p w)) = Some t
state_sort (kind.Value t (node.Array p n w)) = Some t
state_sort _ = None

-- the state of a sort on a line after others, whose first word stands at 0
abbrev pub state_cell : List Line → Line → SortOf → Cell
state_cell before l t = record {
  name = name_among role.State before l.symbol;
  number = l.number;
  width = sort_width t;
  index = sort_index t;
  first = 0;
}

-- the states of a line after others
abbrev pub stored_by : List Line → Line → Row → Option SortOf → List Stored
stored_by before l r None = []
stored_by before l r (Some t) = record { cell = state_cell before l t; is_cell = is_some r.next; has_init = is_some r.init } ∷ []

abbrev pub stored : List Line → Line → Row → Kind → List Stored
stored before l r k = stored_by before l r (state_sort k)

abbrev pub stored_among : List Line → List Line → List Row → List Stored
stored_among before [] rows = []
stored_among before (l ∷ ls) [] = []
stored_among before (l ∷ ls) (r ∷ rs) = stored before l r r.kind ++ stored_among (l ∷ before) ls rs

-- all states in line order
abbrev pub states_of : List Line → List Stored
states_of lines = stored_among [] lines (rows_of lines)

-- ---- some of them

-- states one behind the other, the first at a place
abbrev pub placed : ℕ → List Cell → List Cell
placed n [] = []
placed n (c ∷ cs) = record c { first = n } ∷ placed (n + size c.index) cs

-- the states that a mask marks
abbrev pub marked : List Bool → List Stored → List Cell
marked mask states = pick mask (map (λ (s : Stored). s.cell) states)

-- the same, one behind the other
abbrev pub chosen : List Bool → List Stored → List Cell
chosen mask states = placed 0 (marked mask states)

abbrev pub cell_mask : List Stored → List Bool
cell_mask states = map (λ (s : Stored). s.is_cell) states

abbrev pub bare_mask : List Stored → List Bool
bare_mask states = map (λ (s : Stored). not s.is_cell && not s.has_init) states

-- how many words some states have
abbrev pub all_words : List Stored → ℕ
all_words [] = 0
all_words (s ∷ ss) = size s.cell.index + all_words ss

-- the cells in line order; each begins where the words of those before it end
abbrev pub cells_of : List Line → List Cell
cells_of lines = chosen (cell_mask (states_of lines)) (states_of lines)

-- the bare states in line order
abbrev pub bares_of : List Line → List Cell
bares_of lines = chosen (bare_mask (states_of lines)) (states_of lines)

abbrev pub first_keep : List Bool → Bool
first_keep [] = false
first_keep (k ∷ ks) = k

-- whether a state takes noise words, where the first truth value is its own if it is a cell
abbrev pub takes_noise : Stored → List Bool → Bool
takes_noise s keep = not s.has_init && not (s.is_cell && first_keep keep)

-- the truth values behind a state's own
abbrev pub keep_behind : Stored → List Bool → List Bool
keep_behind s keep = if s.is_cell then drop 1 keep else keep

-- one truth value for each state: whether it takes noise words. `keep` has one for each cell
abbrev pub noise_mask : List Stored → List Bool → List Bool
noise_mask [] keep = []
noise_mask (s ∷ ss) keep = takes_noise s keep ∷ noise_mask ss (keep_behind s keep)

-- the states that take noise words in a power-cycle that keeps some cells, bare ones too, in line
-- order; each begins among the noise words where those before it end
abbrev pub noise_cells : List Line → List Bool → List Cell
noise_cells lines keep = chosen (noise_mask (states_of lines) keep) (states_of lines)

-- the widths of the noise words
abbrev pub noise_widths : List Line → List Bool → List ℕ
noise_widths lines keep = state_widths (noise_cells lines keep)

-- one truth value for each device word: whether its cell is kept. `keep` has one for each cell
abbrev pub keep_mask : List Cell → List Bool → List Bool
keep_mask [] keep = []
keep_mask (c ∷ cs) keep = replicate (size c.index) (first_keep keep) ++ keep_mask cs (drop 1 keep)
