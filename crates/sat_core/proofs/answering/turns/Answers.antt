use Rattle.std.proofs.Common.{length}
use Rattle.sat_core.proofs.SolvingLemmas.{running-more}
use Rattle.sat_core.proofs.answering.turns.Goals as goal

pub loop-turn-preserved : goal.loop-turn-preserved
loop-turn-preserved c =
    running-more c.args.derivation.now.cnf (length c.args.search.now.lists.items) c.loop-turn._turn c.loop-turn.derivation c.turn.new.derivation c.loop-turn.search c.turn.new.search c.in_ok-turn.field-0 c.in-Learned.is c.requires.fits c.in_ok-turn.ensures c.loop-turn.invariant
