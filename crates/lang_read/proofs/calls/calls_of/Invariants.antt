use Rattle.std.proofs.Common.{◌≡◌, drop}
use Rattle.expr_read.specs.Views.{each}
use Rattle.expr_read.specs.Names.{and_last}
use Rattle.lang_read.specs.Calls.{call, calls_of}
use Rattle.lang_read.proofs.calls.calls_of.Given as goal

abbrev pub invariant-loop-tree : goal.invariant-loop-tree
invariant-loop-tree l =
    (l.names ≡ l.initial.names) × (each (call l.home l.ops l.initial.names) and_last l.calls (drop l.tree-index l.trees) ≡ calls_of l.home l.ops l.initial.names l.trees)
