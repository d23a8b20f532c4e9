use Rattle.rat_check.specs.Occurrences.{KeepsEach}
use Rattle.rat_check.proofs.occurrences.widen.Given as goal

abbrev pub invariant-loop : goal.invariant-loop
invariant-loop l = KeepsEach l.initial.lists.items l.lists.items
