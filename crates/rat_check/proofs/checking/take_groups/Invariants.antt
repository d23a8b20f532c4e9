use Rattle.std.proofs.Common.{◌≡◌, [], length}
use Rattle.lrat_check.specs.Derivations.{live_clause}
use Rattle.rat_check.specs.Groups.{parts_of}
use Rattle.rat_check.specs.Rat.{groups_answer}
use Rattle.rat_check.proofs.checking.take_groups.Given as goal

-- the groups that are left answer what all answer
abbrev pub invariant-loop-first : goal.invariant-loop-first
invariant-loop-first l =
    let clause = live_clause l.database in record {
      left : groups_answer clause l.lit l.initial.marks (parts_of l.hints).groups ≡ groups_answer clause l.lit l.marks (parts_of l.left).groups;
      begins : (parts_of l.left).lead ≡ [];
      same : l.marks ≡ l.initial.marks;
    }

abbrev pub decreases-loop-first : goal.decreases-loop-first
decreases-loop-first l = length l.left
