use Rattle.std.proofs.Common.{◌≡◌, length}
use Rattle.lang_read.specs.Statements.{suit}
use Rattle.lang_read.proofs.statement.suit.Given as goal

abbrev pub invariant-loop-width : goal.invariant-loop-width
invariant-loop-width l = suit l.left l.right ≡ suit l.widths l.args

abbrev pub decreases-loop-width : goal.decreases-loop-width
decreases-loop-width l = length l.left
