use Rattle.std.proofs.Common.{◌≡◌, length, take}
use Rattle.lrat_check.proofs.marks.Marks.undo.Given as goal

abbrev pub invariant-loop-self : goal.invariant-loop-self
invariant-loop-self l = take l.first l.self ≡ take l.first l.initial.self

abbrev pub decreases-loop-self : goal.decreases-loop-self
decreases-loop-self l = length l.self
