use Rattle.std.proofs.Common.{◌≡◌, drop}
use Rattle.expr_read.specs.Views.{each}
use Rattle.expr_read.specs.Names.{argument, arguments, and_last}
use Rattle.expr_read.proofs.names.arguments.Given as goal

abbrev pub invariant-loop-tree : goal.invariant-loop-tree
invariant-loop-tree l = each argument and_last l.pairs (drop l.tree-index l.trees) ≡ arguments l.trees
