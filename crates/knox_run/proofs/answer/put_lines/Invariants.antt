use Rattle.std.proofs.Common.{ℕ, length, Result}
use Rattle.knox_run.specs.Words.{Sunk, Status}
use Rattle.knox_run.specs.Writing.{Puts}
use Rattle.knox_run.proofs.answer.put_lines.Given as goal

-- what comes of the lines that are left is what comes of the text
abbrev pub invariant-loop-left : goal.invariant-loop-left
invariant-loop-left g l = (r : Result (Unit {0}) Status) (new : Sunk) → Puts l.left r (g.K.Sink.told l.sink) new → Puts l.fn.text r (g.K.Sink.told l.fn.sink) new

abbrev pub decreases-loop-left : goal.decreases-loop-left
decreases-loop-left g l = length l.left
