use Rattle.std.proofs.Common.{◌≡◌, take, drop}
use Rattle.lrat_check.specs.Register.{entries, revived, deleted}
use Rattle.lrat_check.proofs.register.delete.Given as goal

-- what is left to delete gives what all gives, and what was deleted can be made live again
abbrev pub invariant-loop-at : goal.invariant-loop-at
invariant-loop-at l = record {
  told : deleted (entries l.formula l.ids l.initial.live) l.gone ≡ deleted (entries l.formula l.ids l.live) (drop l.at l.gone);
  back : revived (entries l.formula l.ids l.live) (take l.at l.gone) ≡ l.initial.live;
}
