use Rattle.std.proofs.Common.{take}
use Rattle.rat_check.specs.Occurrences.{Extends, Lists}
use Rattle.rat_check.proofs.occurrences.Occurrences.add.Given as goal

abbrev pub invariant-loop-lit : goal.invariant-loop-lit
invariant-loop-lit l = record {
  listed : Lists l.self l.id (take l.lit-index l.clause);
  more : Extends l.fn.self l.self;
}
