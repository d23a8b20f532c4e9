use Rattle.std.proofs.Common.{◌≡◌, drop}
use Rattle.expr_read.specs.Views.{each}
use Rattle.expr_read.specs.Names.{and_last}
use Rattle.lang_read.specs.Drivers.{idle_entry, idle_entries}
use Rattle.lang_read.proofs.driver.idle_entries.Given as goal

abbrev pub invariant-loop-tree : goal.invariant-loop-tree
invariant-loop-tree l = each (idle_entry l.inputs) and_last l.entries (drop l.tree-index l.trees) ≡ idle_entries l.inputs l.trees
