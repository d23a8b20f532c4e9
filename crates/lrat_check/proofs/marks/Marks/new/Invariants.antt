use Rattle.std.proofs.Common.{◌≡◌, ℕ, false, get_or}
use Rattle.lrat_check.proofs.marks.Marks.new.Given as goal

abbrev pub invariant-loop : goal.invariant-loop
invariant-loop l = (k : ℕ) → get_or l.near.items k false ≡ false
