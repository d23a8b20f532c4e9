use Rattle.std.{proofs.Common.◌≤◌, proofs.Common.◌-◌, proofs.Common.length, proofs.Common.take, specs.Io.KnownBytes.Appends}
use Rattle.knox_edge.proofs.stream.write_whole.Given as goal

abbrev pub invariant-loop-at : goal.invariant-loop-at
invariant-loop-at g l = (l.at ≤ length l.piece) × Appends (g.W.Write.contents l.fn.writer) (g.W.Write.contents l.writer) (take l.at l.piece)

abbrev pub decreases-loop-at : goal.decreases-loop-at
decreases-loop-at g l = length l.piece - l.at
