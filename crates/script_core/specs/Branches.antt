-- Which segments are of a call: in these alone the driver's tests are met. The project's own; nobody has to believe it, since `branch_word` of the theory is
-- what the public clause speaks of.
use Rattle.std.specs.Prelude.{ℕ, Option, Some, None}
use Rattle.script_core.specs.declared.parts.Kind.{Kind}
use Rattle.script_core.specs.declared.parts.Kind.TheVariants.{Call}
use Rattle.script_core.specs.declared.parts.Root.{Root}
use Rattle.script_core.specs.declared.parts.Root.TheVariants.{OfKind, OfCut}

-- the operation whose call a kind is of
abbrev pub op_of_kind : Kind → Option ℕ
op_of_kind (Call o) = Some o
op_of_kind k = None

-- the operation whose call the segment with a root is of
abbrev pub op_of_root : Option Root → Option ℕ
op_of_root None = None
op_of_root (Some OfCut) = None
op_of_root (Some (OfKind k)) = op_of_kind k
