use Rattle.std.proofs.Common.{◌≡◌, ◌++◌, drop}
use Rattle.expr_read.specs.Names.{word_names}
use Rattle.expr_read.proofs.names.declare_words.Given as goal

abbrev pub invariant-loop-cell : goal.invariant-loop-cell
invariant-loop-cell l = l.names ++ word_names l.space (drop l.cell-index l.cells) ≡ l.initial.names ++ word_names l.space l.cells
