use Rattle.rat_check.proofs.GroupLemmas.{Leads}
use Rattle.rat_check.proofs.grouping.lead_len.Given as goal

abbrev pub invariant-loop-at : goal.invariant-loop-at
invariant-loop-at l = Leads l.hints l.at
