use Rattle.std.proofs.Common.{◌≡◌, drop}
use Rattle.expr_read.specs.Views.{each}
use Rattle.expr_read.specs.Names.{local, locals, and_last}
use Rattle.expr_read.proofs.names.locals.Given as goal

abbrev pub invariant-loop-tree : goal.invariant-loop-tree
invariant-loop-tree l = each local and_last l.pairs (drop l.tree-index l.trees) ≡ locals l.trees
