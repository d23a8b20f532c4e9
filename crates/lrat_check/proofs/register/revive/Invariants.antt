use Rattle.std.proofs.Common.{◌≡◌, length}
use Rattle.lrat_check.specs.Register.{entries, revived}
use Rattle.lrat_check.proofs.register.revive.Given as goal

-- what is left to make live leads to what all of them lead to
abbrev pub invariant-loop-last : goal.invariant-loop-last
invariant-loop-last l =
    revived (entries l.formula l.ids l.live) l.left ≡ revived (entries l.formula l.ids l.initial.live) l.gone

abbrev pub decreases-loop-last : goal.decreases-loop-last
decreases-loop-last l = length l.left
