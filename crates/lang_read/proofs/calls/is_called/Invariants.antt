use Rattle.std.proofs.Common.{◌≡◌, drop}
use Rattle.lang_read.specs.Calls.{is_called}
use Rattle.lang_read.proofs.calls.is_called.Given as goal

abbrev pub invariant-loop-tree : goal.invariant-loop-tree
invariant-loop-tree l = is_called l.name (drop l.tree-index l.trees) ≡ is_called l.name l.trees
