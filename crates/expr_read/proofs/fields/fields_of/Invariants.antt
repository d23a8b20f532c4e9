use Rattle.std.proofs.Common.{◌≡◌, drop}
use Rattle.expr_read.specs.declared.fields.Fields.{Fields}
use Rattle.expr_read.specs.Views.{each}
use Rattle.expr_read.specs.Fields.{field, and_field, fields_of}
use Rattle.expr_read.proofs.fields.fields_of.Given as goal

abbrev pub invariant-loop-tree : goal.invariant-loop-tree
invariant-loop-tree l = each (λ (before : Fields). field before.fields) and_field (record { fields = l.fields; init = l.init }) (drop l.tree-index l.trees) ≡ fields_of l.trees
