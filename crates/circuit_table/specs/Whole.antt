-- The rule of a whole circuit: what is shown, checked or kept hangs on no state without a `next`, and
-- a state that has an `init` has a `next`.
-- The project's own.
use Rattle.std.specs.Prelude.{ℕ, zero, suc, ◌==◌, ◌&&◌, List, slice_get, Bool, true, false, Option, Some, None, is_none, is_some, if◌then◌else◌}
use Rattle.std.specs.List.{list_any}
use Rattle.circuit_nodes.specs.declared.node.Node.{Node}
use Rattle.circuit_nodes.specs.declared.node.Node.TheVariants as node
use Rattle.circuit_nodes.specs.declared.node.Kind.{Kind}
use Rattle.circuit_nodes.specs.declared.node.Kind.TheVariants as kind
use Rattle.circuit_nodes.specs.declared.node.Row.{Row}
use Rattle.circuit_nodes.specs.Needs.{operands}

-- whether a node hangs on a state without a `next`, where at tells it of earlier places, and bare of
-- itself as a state
abbrev pub node_hungry : (ℕ → Bool) → Bool → Node → Bool
node_hungry at bare (node.State p w) = bare
node_hungry at bare (node.Array p n w) = bare
node_hungry at bare n = list_any at (operands n)

abbrev pub kind_hungry : (ℕ → Bool) → Bool → Kind → Bool
kind_hungry at bare (kind.Value t n) = node_hungry at bare n
kind_hungry at bare _ = false

abbrev pub row_hungry : (ℕ → Bool) → Option Row → Bool
row_hungry at None = false
row_hungry at (Some r) = kind_hungry at (is_none r.next) r.kind

-- the same of the node at place k, over the first i rows
abbrev pub hungry_at : List Row → ℕ → ℕ → Bool
hungry_at rows zero k = false
hungry_at rows (suc i) k = if k == i then row_hungry (hungry_at rows i) (slice_get rows i) else hungry_at rows i k

abbrev pub node_lacks : Bool → Node → Bool
node_lacks lone (node.State p w) = lone
node_lacks lone (node.Array p n w) = lone
node_lacks lone _ = false

-- whether a line breaks the rule, where lone tells whether it has an `init` and no `next`
abbrev pub kind_lacks : (ℕ → Bool) → Bool → Kind → Bool
kind_lacks at lone (kind.Value t n) = node_lacks lone n
kind_lacks at lone (kind.Output a w) = at a.node
kind_lacks at lone (kind.Fed a) = at a.node
kind_lacks at lone (kind.Bad a) = at a.node
kind_lacks at lone _ = false

abbrev pub row_lacks : (ℕ → Bool) → Option Row → Bool
row_lacks at None = false
row_lacks at (Some r) = kind_lacks at (is_some r.init && is_none r.next) r.kind

abbrev pub or_else : Option ℕ → Bool → ℕ → Option ℕ
or_else (Some k) b i = Some k
or_else None true i = Some i
or_else None false i = None

-- the place of the first of the first i rows that breaks the rule
abbrev pub unfed_among : List Row → ℕ → Option ℕ
unfed_among rows zero = None
unfed_among rows (suc i) = or_else (unfed_among rows i) (row_lacks (hungry_at rows i) (slice_get rows i)) i
