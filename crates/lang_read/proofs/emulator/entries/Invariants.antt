use Rattle.std.proofs.Common.{◌≡◌, drop}
use Rattle.expr_read.specs.Views.{each}
use Rattle.expr_read.specs.Names.{and_last}
use Rattle.lang_read.specs.Emulators.{outputs_entry, entries}
use Rattle.lang_read.proofs.emulator.entries.Given as goal

abbrev pub invariant-loop-tree : goal.invariant-loop-tree
invariant-loop-tree l = each (outputs_entry l.outs l.names) and_last l.entries (drop l.tree-index l.trees) ≡ entries l.outs l.names l.trees
