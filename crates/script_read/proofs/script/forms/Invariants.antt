use Rattle.std.proofs.Common.{◌≡◌, drop, length}
use Rattle.script_read.specs.Scripts.{nothing, forms}
use Rattle.script_read.proofs.script.forms.Given as goal

abbrev pub invariant-loop-tree : goal.invariant-loop-tree
invariant-loop-tree l = forms l.names l.ops l.draft (drop l.tree-index l.trees) ≡ forms l.names l.ops (nothing (length l.ops)) l.trees
