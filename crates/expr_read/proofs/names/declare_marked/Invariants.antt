use Rattle.std.proofs.Common.{◌≡◌, ◌++◌, length}
use Rattle.expr_read.specs.Names.{marked_names}
use Rattle.expr_read.proofs.names.declare_marked.Given as goal

abbrev pub invariant-loop-cell : goal.invariant-loop-cell
invariant-loop-cell l = l.names ++ marked_names l.left l.right ≡ l.initial.names ++ marked_names l.initial.left l.initial.right

abbrev pub decreases-loop-cell : goal.decreases-loop-cell
decreases-loop-cell l = length l.left
