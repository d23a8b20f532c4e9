use Rattle.std.proofs.Common.{◌≤◌, length}
use Rattle.lrat_check.specs.Marks.{Extends}
use Rattle.sat_core.specs.Tables.{Tells}
use Rattle.sat_core.proofs.trail.shorten.Given as goal

abbrev pub invariant-loop-literals : goal.invariant-loop-literals
invariant-loop-literals l = record {
  tells : Tells l.places.items l.literals.items;
  inside : l.count ≤ length l.literals.items;
  front : Extends l.literals.items l.fn.literals.items;
}

abbrev pub decreases-loop-literals : goal.decreases-loop-literals
decreases-loop-literals l = length l.literals.items
