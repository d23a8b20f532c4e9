-- What the rules let rows be: sorts are in their limits, a constant, an input and a state have the
-- width of their sort, an input stands at its place among the inputs, each operator takes nodes that
-- stand before it, whose sorts it takes, and gives its own sort, and what a state takes has its sort.
-- Standard: BTOR2 (Niemetz, Preiner, Wolf and Biere, CAV 2018).
use Rattle.std.specs.Prelude.{◌≡◌, ℕ, ◌^◌, List, slice_get, take, true, Option, Some, None}
use Rattle.knox_words.specs.Lists.{fits}
use Rattle.circuit_nodes.specs.declared.node.Arg.{Arg}
use Rattle.circuit_nodes.specs.declared.node.Next.{Next}
use Rattle.circuit_nodes.specs.declared.node.Next.TheVariants as next
use Rattle.circuit_nodes.specs.declared.node.Node.{Node}
use Rattle.circuit_nodes.specs.declared.node.Node.TheVariants as node
use Rattle.circuit_nodes.specs.declared.node.SortOf.{SortOf}
use Rattle.circuit_nodes.specs.declared.node.SortOf.TheVariants.{Words, Arrays}
use Rattle.circuit_nodes.specs.declared.node.Kind.{Kind}
use Rattle.circuit_nodes.specs.declared.node.Kind.TheVariants as kind
use Rattle.circuit_nodes.specs.declared.node.Row.{Row}
use Rattle.circuit_table.specs.Sorts.{is_sort, word_width}
use Rattle.circuit_table.specs.Operators.{un_sort, bin_sort, slice_sort, extended_sort, ite_sort, read_sort, write_sort}
use Rattle.circuit_table.specs.Rows.{kinds_of, inputs_in}

abbrev pub kind_sort : Option Kind → Option SortOf
kind_sort (Some (kind.Value t n)) = Some t
kind_sort _ = None

-- the sort of the node at a place
abbrev pub sort_in : List Kind → ℕ → Option SortOf
sort_in kinds k = kind_sort (slice_get kinds k)

-- an operand's sort at a place
abbrev pub Has : (ℕ → Option SortOf) → ℕ → (SortOf → Type 0) → Type 0
Has sorts k P = (s : SortOf) × (sorts k ≡ Some s) × P s

-- a node of a sort, over the sorts of nodes by place and the widths of inputs
abbrev pub IsTyped : (ℕ → Option SortOf) → List ℕ → SortOf → Node → Type 0
IsTyped sorts inputs t (node.Const w) = (v : ℕ) × (t ≡ Words v) × (fits v w ≡ true)
IsTyped sorts inputs t (node.Input p w) = (t ≡ Words w) × (slice_get inputs p ≡ Some w)
IsTyped sorts inputs t (node.State p w) = t ≡ Words w
IsTyped sorts inputs t (node.Array p n w) = (i : ℕ) × (t ≡ Arrays i w) × (n ≡ 2 ^ i)
IsTyped sorts inputs t (node.Un o a) = Has sorts a.node (λ a. un_sort o (Some a) ≡ Some t)
IsTyped sorts inputs t (node.Bin o a b) = Has sorts a.node (λ a. Has sorts b.node (λ b. bin_sort o (Some a) (Some b) ≡ Some t))
IsTyped sorts inputs t (node.Slice a h l) = Has sorts a.node (λ a. slice_sort (Some a) h l ≡ Some t)
IsTyped sorts inputs t (node.Uext a m) = Has sorts a.node (λ a. extended_sort (Some a) m ≡ Some t)
IsTyped sorts inputs t (node.Sext a m) = Has sorts a.node (λ a. extended_sort (Some a) m ≡ Some t)
IsTyped sorts inputs t (node.Ite c a b) = Has sorts c.node (λ c. Has sorts a.node (λ a. Has sorts b.node (λ b. ite_sort (Some c) (Some a) (Some b) ≡ Some t)))
IsTyped sorts inputs t (node.Pick c a b) = Has sorts c.node (λ c. Has sorts a (λ a. Has sorts b (λ b. ite_sort (Some c) (Some a) (Some b) ≡ Some t)))
IsTyped sorts inputs t (node.Read a i) = Has sorts a (λ a. Has sorts i.node (λ i. read_sort (Some a) (Some i) ≡ Some t))
IsTyped sorts inputs t (node.Write a i w) = Has sorts a (λ a. Has sorts i.node (λ i. Has sorts w.node (λ w. write_sort (Some a) (Some i) (Some w) ≡ Some t)))

abbrev pub IsTypedKind : (ℕ → Option SortOf) → List ℕ → Kind → Type 0
IsTypedKind sorts inputs (kind.Sort t) = is_sort t ≡ true
IsTypedKind sorts inputs (kind.Value t n) = (is_sort t ≡ true) × IsTyped sorts inputs t n
IsTypedKind sorts inputs (kind.Output a w) = sorts a.node ≡ Some (Words w)
IsTypedKind sorts inputs (kind.Bad a) = sorts a.node ≡ Some (Words 1)
IsTypedKind sorts inputs _ = Unit {0}

-- what a state of a sort takes at a tick: a node of its sort
abbrev pub NextSuits : (ℕ → Option SortOf) → Option SortOf → Option Arg → Type 0
NextSuits sorts t None = Unit {0}
NextSuits sorts None (Some a) = ⊥
NextSuits sorts (Some t) (Some a) = sorts a.node ≡ Some t

-- what a state of a sort begins with: one word at each place, or an array of its sort
abbrev pub InitSuits : (ℕ → Option SortOf) → Option SortOf → Option Next → Type 0
InitSuits sorts t None = Unit {0}
InitSuits sorts None (Some v) = ⊥
InitSuits sorts (Some t) (Some (next.Word a)) = sorts a.node ≡ Some (Words (word_width t))
InitSuits sorts (Some t) (Some (next.Array k n)) = sorts k ≡ Some t

-- a row, over the sorts of the nodes before it and of all nodes, and the widths of inputs
pub record IsTypedRow (before sorts : ℕ → Option SortOf) (inputs : List ℕ) (r : Row) : Type 0 where
  pub kind : IsTypedKind before inputs r.kind
  pub next : NextSuits sorts (kind_sort (Some r.kind)) r.next
  pub init : InitSuits sorts (kind_sort (Some r.kind)) r.init

-- every row is typed: operands stand before it
abbrev pub AreTyped : List Row → Type 0
AreTyped rows = (k : ℕ) (r : Row) → slice_get rows k ≡ Some r → IsTypedRow (sort_in (take k (kinds_of rows))) (sort_in (kinds_of rows)) (inputs_in rows) r
