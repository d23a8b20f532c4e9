-- Lists of nodes that are graphs: children before parents, of widths that their operators take, variables numbered in order,
-- and no two nodes equal.
use Rattle.std.specs.Prelude.{ℕ, ◌+◌, ◌<◌, ◌≤◌, List, length, take, slice_get, map, Some, true, ◌≡◌, []}
use Rattle.std.specs.List.{IsDistinct}
use Rattle.knox_words.specs.Bits.{IsWord}
use Rattle.knox_words.specs.Ops.{fits2_of}
use Rattle.term_graph.specs.declared.node.Node.{Node}
use Rattle.term_graph.specs.declared.node.Node.TheVariants as node
use Rattle.term_graph.specs.contracts.node.NodePartialEq.TheImpl.{ghosts}
use Rattle.term_graph.specs.Value.{values, vars_of, width_of}

-- the children of a node stand before place k
abbrev pub Below : ℕ → Node → Type 0
Below k (node.Var w n) = Unit {0}
Below k (node.Word b) = Unit {0}
Below k (node.Un o a) = a < k
Below k (node.Bin o a b) = (a < k) × (b < k)
Below k (node.Sext a n) = a < k
Below k (node.Uext a n) = a < k
Below k (node.Slice a h l) = a < k
Below k (node.Ite c a b) = (c < k) × (a < k) × (b < k)

-- a variable has number k
abbrev pub Numbered : ℕ → Node → Type 0
Numbered k (node.Var w n) = n ≡ k
Numbered k _ = Unit {0}

-- a variable's width is one, and an operator takes the widths of its operands
abbrev pub Fits : List Node → Node → Type 0
Fits ns (node.Var w n) = (1 ≤ w) × (w ≤ 128)
Fits ns (node.Word b) = IsWord b
Fits ns (node.Un o a) = Unit {0}
Fits ns (node.Bin o a b) = fits2_of o (width_of ns a) (width_of ns b) ≡ true
Fits ns (node.Sext a n) = width_of ns a + n ≤ 128
Fits ns (node.Uext a n) = width_of ns a + n ≤ 128
Fits ns (node.Slice a h l) = (l ≤ h) × (h < width_of ns a)
Fits ns (node.Ite c a b) = (width_of ns c ≡ 1) × (width_of ns a ≡ width_of ns b)

-- a node that may stand next
pub record IsNext (ns : List Node) (n : Node) : Type 0 where
  pub below : Below (length ns) n
  pub numbered : Numbered (length (vars_of ns)) n
  pub fits : Fits ns n

-- each node may stand after those before it
pub record IsBuilt (ns : List Node) : Type 0 where
  pub each : (k : ℕ) (n : Node) → slice_get ns k ≡ Some n → IsNext (take k ns) n

-- the same, where no two nodes are equal
pub record IsGraph (ns : List Node) : Type 0 where
  pub built : IsBuilt ns
  pub different : IsDistinct ghosts.eq ns

-- a graph with the widths of its terms and the places of its variables
pub record IsKept (ns : List Node) (widths vars : List ℕ) : Type 0 where
  pub built : IsBuilt ns
  pub measured : widths ≡ map (λ w. w.width) (values [] ns)
  pub listed : vars ≡ vars_of ns
