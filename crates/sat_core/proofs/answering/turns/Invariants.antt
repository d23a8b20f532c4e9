use Rattle.std.proofs.Common.{length}
use Rattle.sat_core.proofs.SolvingLemmas.{Running}
use Rattle.sat_core.proofs.answering.turns.Given as goal

abbrev pub invariant-loop-turn : goal.invariant-loop-turn
invariant-loop-turn l = Running l.fn.derivation.cnf (length l.fn.search.lists.items) l._turn l.derivation l.search
