-- What is evaluated of the rows of a circuit. A cell is a state with a `next`. The device words are
-- those of the cells in line order; behind them stand the words of the states without one.
-- The project's own.
use Rattle.std.specs.Prelude.{ℕ, ◌+◌, List, [], ◌∷◌, ◌++◌, map, replicate, not, Bool, true, false, Option, Some, None, is_some, if◌then◌else◌}
use Rattle.circuit_nodes.specs.declared.node.Arg.{Arg}
use Rattle.circuit_nodes.specs.declared.node.Node.{Node}
use Rattle.circuit_nodes.specs.declared.node.Node.TheVariants as node
use Rattle.circuit_nodes.specs.declared.node.Next.{Next}
use Rattle.circuit_nodes.specs.declared.node.Next.TheVariants as next
use Rattle.circuit_nodes.specs.declared.node.State.{State}
use Rattle.circuit_nodes.specs.declared.node.SortOf.TheVariants.{Arrays}
use Rattle.circuit_nodes.specs.declared.node.Kind.{Kind}
use Rattle.circuit_nodes.specs.declared.node.Kind.TheVariants as kind
use Rattle.circuit_nodes.specs.declared.node.Row.{Row}
use Rattle.circuit_nodes.specs.Values.{zero_word}

-- the node of a row; a line that is no node has the zero word
abbrev pub kind_node : Kind → Node
kind_node (kind.Value t n) = n
kind_node _ = node.Const zero_word

-- how many words a node has as a state
abbrev pub size : Node → ℕ
size (node.State p w) = 1
size (node.Array p n w) = n
size _ = 0

abbrev pub row_size : Row → ℕ
row_size r = size (kind_node r.kind)

abbrev pub cell_size : Row → ℕ
cell_size r = if is_some r.next then row_size r else 0

abbrev pub bare_size : Row → ℕ
bare_size r = if is_some r.next then 0 else row_size r

abbrev pub total : List ℕ → ℕ
total [] = 0
total (n ∷ ns) = n + total ns

abbrev pub cell_words : List Row → ℕ
cell_words rows = total (map cell_size rows)

abbrev pub bare_words : List Row → ℕ
bare_words rows = total (map bare_size rows)

-- a state's node with the place of its first word
abbrev pub with_first : ℕ → Node → Node
with_first first (node.State p w) = node.State first w
with_first first (node.Array p n w) = node.Array first n w
with_first first n = n

-- where the words of a row stand, those of cells from c on and those of other states from b on
abbrev pub first_of : ℕ → ℕ → Row → ℕ
first_of c b r = if is_some r.next then c else b

abbrev pub nodes_from : ℕ → ℕ → List Row → List Node
nodes_from c b [] = []
nodes_from c b (r ∷ rows) = with_first (first_of c b r) (kind_node r.kind) ∷ nodes_from (c + cell_size r) (b + bare_size r) rows

-- a state of a node of a sort at place k
abbrev pub state_of : ℕ → ℕ → Row → Kind → List State
state_of k first r (kind.Value t (node.State p w)) = record { node = k; first = first; words = 1; width = w; index = None; next = r.next; init = r.init } ∷ []
state_of k first r (kind.Value (Arrays i e) (node.Array p n w)) = record { node = k; first = first; words = n; width = w; index = Some i; next = r.next; init = r.init } ∷ []
state_of k first r _ = []

-- the states of rows of which the first stands at place k
abbrev pub states_from : ℕ → ℕ → ℕ → List Row → List State
states_from k c b [] = []
states_from k c b (r ∷ rows) = state_of k (first_of c b r) r r.kind ++ states_from (k + 1) (c + cell_size r) (b + bare_size r) rows

-- what a cell takes at a tick
abbrev pub next_for : Node → Arg → List Next
next_for (node.State p w) a = next.Word a ∷ []
next_for (node.Array p n w) a = next.Array a.node n ∷ []
next_for _ a = []

abbrev pub row_nexts : Node → Option Arg → List Next
row_nexts n None = []
row_nexts n (Some a) = next_for n a

abbrev pub nexts_of : List Row → List Next
nexts_of [] = []
nexts_of (r ∷ rows) = row_nexts (kind_node r.kind) r.next ++ nexts_of rows

abbrev pub kind_outputs : Kind → List Arg
kind_outputs (kind.Output a w) = a ∷ []
kind_outputs _ = []

-- the operands of the outputs
abbrev pub outputs_of : List Row → List Arg
outputs_of [] = []
outputs_of (r ∷ rows) = kind_outputs r.kind ++ outputs_of rows

abbrev pub same : Bool → Bool → Bool
same true c = c
same false c = not c

-- the widths of the words of states with a `next`, or of those without one
abbrev pub widths_where : Bool → List State → List ℕ
widths_where b [] = []
widths_where b (s ∷ ss) = (if same b (is_some s.next) then replicate s.words s.width else []) ++ widths_where b ss

-- the nodes of a circuit, its states, the operands of its outputs, what its cells take, how many
-- device words it has, and the widths of the words of all states
pub record Parts : Type 0 where
  pub nodes : List Node
  pub states : List State
  pub outputs : List Arg
  pub nexts : List Next
  pub cells : ℕ
  pub widths : List ℕ

abbrev pub all_widths : List State → List ℕ
all_widths ss = widths_where true ss ++ widths_where false ss

abbrev pub parts_of : List Row → Parts
parts_of rows = record {
  nodes = nodes_from 0 (cell_words rows) rows;
  states = states_from 0 0 (cell_words rows) rows;
  outputs = outputs_of rows;
  nexts = nexts_of rows;
  cells = cell_words rows;
  widths = all_widths (states_from 0 0 (cell_words rows) rows);
}
