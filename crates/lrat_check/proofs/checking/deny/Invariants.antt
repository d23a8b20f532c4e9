use Rattle.std.proofs.Common.{◌≡◌, drop, map}
use Rattle.knox_cnf.specs.Literals.{complement}
use Rattle.lrat_check.specs.Marks.{all_with_true, Extends}
use Rattle.lrat_check.proofs.checking.deny.Given as goal

-- what is left gives what all give
abbrev pub invariant-loop-lit : goal.invariant-loop-lit
invariant-loop-lit l = record {
  left : all_with_true l.initial.marks (map complement l.lits) ≡ all_with_true l.marks (map complement (drop l.lit-index l.lits));
  more : Extends l.initial.marks l.marks;
}
