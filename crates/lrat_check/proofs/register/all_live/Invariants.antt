use Rattle.std.proofs.Common.{◌≡◌, true}
use Rattle.std.specs.Prelude.{replicate}
use Rattle.lrat_check.proofs.register.all_live.Given as goal

abbrev pub invariant-loop : goal.invariant-loop
invariant-loop l = l.live.items ≡ replicate l.counter true
