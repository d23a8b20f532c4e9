use Rattle.std.proofs.Common.{◌≡◌, ◌++◌, ℕ, List, replicate}
use Rattle.knox_words.specs.Lists.{fit}
use Rattle.knox_circuit.proofs.states.behind.Given as goal

abbrev pub invariant-loop-lacking : goal.invariant-loop-lacking
invariant-loop-lacking l = (ws : List ℕ) → fit (replicate l.lacking l.width ++ ws) l.left ≡ fit (replicate l.count l.width ++ ws) l.words

abbrev pub decreases-loop-lacking : goal.decreases-loop-lacking
decreases-loop-lacking l = l.lacking
