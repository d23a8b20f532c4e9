use Rattle.std.proofs.Common.{◌≡◌, ℕ, true, take}
use Rattle.lrat_check.specs.Derivations.{live_clause}
use Rattle.rat_check.specs.Groups.{parts_of, has_group}
use Rattle.rat_check.specs.Rat.{is_uncovered}
use Rattle.rat_check.specs.Covering.{IsLeast}
use Rattle.rat_check.proofs.covering.least_uncovered.Given as goal

-- what was found among the ids so far, and the groups that are left are some of all
abbrev pub invariant-loop-id : goal.invariant-loop-id
invariant-loop-id l = record {
  found : IsLeast (is_uncovered (live_clause l.database) l.lit (parts_of l.hints).groups) l.fn.found (take l.id-index l.ids) l.least;
  left : (i : ℕ) → has_group (parts_of l.left).groups i ≡ true → has_group (parts_of l.hints).groups i ≡ true;
}
