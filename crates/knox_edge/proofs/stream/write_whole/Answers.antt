use Rattle.std.proofs.Common.{arith}
use Rattle.knox_edge.proofs.Known.{next-bytes}
use Rattle.knox_edge.proofs.stream.write_whole.Goals as goal

pub loop-at-preserved : goal.loop-at-preserved
loop-at-preserved g c = (grind arith, next-bytes _ _ _ c.args.piece.now c.loop-at.at c.in-Ok.count (omega arith) c.loop-at.invariant.1 c.in-Ok.ensures.bytes)
