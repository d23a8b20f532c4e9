use Rattle.std.proofs.Common.{◌≡◌, drop, map}
use Rattle.knox_cnf.specs.Literals.{complement}
use Rattle.lrat_check.specs.Marks.{all_with_true, Extends}
use Rattle.rat_check.specs.Rat.{others}
use Rattle.rat_check.proofs.checking.deny_others.Given as goal

-- what is left gives what all give
abbrev pub invariant-loop-other : goal.invariant-loop-other
invariant-loop-other l = record {
  left : all_with_true l.initial.marks (map complement (others l.lit l.clause)) ≡ all_with_true l.marks (map complement (others l.lit (drop l.other-index l.clause)));
  more : Extends l.initial.marks l.marks;
}
