use Rattle.std.proofs.Common.{◌≡◌, drop}
use Rattle.expr_read.specs.Views.{each}
use Rattle.lang_read.specs.declared.spec.OpList.{OpList}
use Rattle.lang_read.specs.Specifications.{operation, operations, and_op}
use Rattle.lang_read.proofs.spec.operations.Given as goal

abbrev pub invariant-loop-tree : goal.invariant-loop-tree
invariant-loop-tree l =
    (l.names ≡ l.initial.names) × (each (λ (before : OpList). operation l.initial.names before.heads) and_op (record { heads = l.heads; bodies = l.bodies }) (drop l.tree-index l.trees) ≡ operations l.initial.names l.trees)
