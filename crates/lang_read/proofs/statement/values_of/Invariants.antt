use Rattle.std.proofs.Common.{◌≡◌, drop}
use Rattle.expr_read.specs.Views.{each}
use Rattle.expr_read.specs.Expressions.{expr_of}
use Rattle.lang_read.specs.declared.statement.Values.{Values}
use Rattle.lang_read.specs.Statements.{and_value, values_of}
use Rattle.lang_read.proofs.statement.values_of.Given as goal

abbrev pub invariant-loop-tree : goal.invariant-loop-tree
invariant-loop-tree l = each (λ (before : Values) t. expr_of t l.names) and_value (record { exprs = l.exprs; widths = l.widths; cost = l.cost }) (drop l.tree-index l.trees) ≡ values_of l.names l.trees
