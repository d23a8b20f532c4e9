-- Which nodes are needed, and nodes of which the others are left out. But for `operands` and
-- `is_needed`, for the code alone: no public clause cites it.
use Rattle.std.specs.Prelude.{◌≡◌, ℕ, ◌+◌, ◌<◌, ◌≤◌, nat_lt, List, [], ◌∷◌, ◌++◌, map, Bool, true, false, set, length, slice_index_or, if◌then◌else◌}
use Rattle.circuit_nodes.specs.declared.node.Arg.{Arg}
use Rattle.circuit_nodes.specs.declared.node.Node.{Node}
use Rattle.circuit_nodes.specs.declared.node.Node.TheVariants as node
use Rattle.circuit_nodes.specs.declared.node.Next.{Next}
use Rattle.circuit_nodes.specs.declared.node.Next.TheVariants as next
use Rattle.circuit_nodes.specs.Values.{zero_word}

-- the places of the operands of a node
abbrev pub operands : Node → List ℕ
operands (node.Un o a) = a.node ∷ []
operands (node.Bin o a b) = a.node ∷ (b.node ∷ [])
operands (node.Slice a high low) = a.node ∷ []
operands (node.Uext a n) = a.node ∷ []
operands (node.Sext a n) = a.node ∷ []
operands (node.Ite c a b) = c.node ∷ (a.node ∷ (b.node ∷ []))
operands (node.Pick c a b) = c.node ∷ (a ∷ (b ∷ []))
operands (node.Read a i) = a ∷ (i.node ∷ [])
operands (node.Write a i w) = a ∷ (i.node ∷ (w.node ∷ []))
operands _ = []

-- the place of the node that a state takes
abbrev pub next_place : Next → ℕ
next_place (next.Word a) = a.node
next_place (next.Array k n) = k

-- the places of the nodes of operands, and of those that states take
abbrev pub roots : List Arg → List Next → List ℕ
roots args nexts = map (λ (a : Arg). a.node) args ++ map next_place nexts

abbrev pub is_needed : List Bool → ℕ → Bool
is_needed needs k = slice_index_or needs k false

-- the place of a node below a bound is needed from now on
abbrev pub marked : ℕ → ℕ → List Bool → List Bool
marked bound k needs = if nat_lt k bound then set needs k true else needs

abbrev pub all_marked : ℕ → List ℕ → List Bool → List Bool
all_marked bound [] needs = needs
all_marked bound (k ∷ ks) needs = all_marked bound ks (marked bound k needs)

abbrev pub Each : (ℕ → Type 0) → List ℕ → Type 0
Each P [] = Unit {0}
Each P (o ∷ os) = P o × Each P os

abbrev pub node_or : List Node → ℕ → Node
node_or ns k = slice_index_or ns k (node.Const zero_word)

-- from a place on, the operands of a needed node that stand before it are needed
abbrev pub AreClosedFrom : List Bool → List Node → ℕ → Type 0
AreClosedFrom needs ns i =
    (k : ℕ) → i ≤ k → is_needed needs k ≡ true → Each (λ (o : ℕ). o < k → is_needed needs o ≡ true) (operands (node_or ns k))

-- what is needed is closed under operands, has one mark for each node, and holds some places
pub record AreNeeds (needs : List Bool) (ns : List Node) (places : List ℕ) : Type 0 where
  pub long : length needs ≡ length ns
  pub closed : AreClosedFrom needs ns 0
  pub held : Each (λ (o : ℕ). o < length ns → is_needed needs o ≡ true) places

-- nodes that aren't needed are left out: each that is left has a place among them

abbrev pub counted : ℕ → Bool → ℕ
counted c b = if b then c + 1 else c

-- the places of nodes, where those that are needed stand from a place on
abbrev pub places_from : ℕ → List Bool → List ℕ
places_from c [] = []
places_from c (b ∷ bs) = c ∷ places_from (counted c b) bs

-- the new place of a node; a place that no node has stays as it is
abbrev pub moved_place : List ℕ → ℕ → ℕ
moved_place places k = slice_index_or places k k

abbrev pub moved_arg : List ℕ → Arg → Arg
moved_arg places a = record { node = moved_place places a.node; complement = a.complement }

abbrev pub moved_next : List ℕ → Next → Next
moved_next places (next.Word a) = next.Word (moved_arg places a)
moved_next places (next.Array k n) = next.Array (moved_place places k) n

abbrev pub moved_node : List ℕ → Node → Node
moved_node places (node.Un o a) = node.Un o (moved_arg places a)
moved_node places (node.Bin o a b) = node.Bin o (moved_arg places a) (moved_arg places b)
moved_node places (node.Slice a high low) = node.Slice (moved_arg places a) high low
moved_node places (node.Uext a n) = node.Uext (moved_arg places a) n
moved_node places (node.Sext a n) = node.Sext (moved_arg places a) n
moved_node places (node.Ite c a b) = node.Ite (moved_arg places c) (moved_arg places a) (moved_arg places b)
moved_node places (node.Pick c a b) = node.Pick (moved_arg places c) (moved_place places a) (moved_place places b)
moved_node places (node.Read a i) = node.Read (moved_place places a) (moved_arg places i)
moved_node places (node.Write a i w) = node.Write (moved_place places a) (moved_arg places i) (moved_arg places w)
moved_node places n = n

abbrev pub kept_node : Bool → Node → List Node
kept_node b n = if b then n ∷ [] else []

-- the nodes that are needed, with their operands by their new places
abbrev pub packed : List ℕ → List Bool → List Node → List Node
packed places [] ns = []
packed places (b ∷ bs) [] = []
packed places (b ∷ bs) (n ∷ ns) = kept_node b (moved_node places n) ++ packed places bs ns
