use Rattle.std.proofs.Common.{◌≡◌, drop}
use Rattle.lang_read.specs.Entries.{is_entered}
use Rattle.lang_read.proofs.entries.is_entered.Given as goal

abbrev pub invariant-loop-entry : goal.invariant-loop-entry
invariant-loop-entry g l = is_entered l.number (drop l.entry-index l.entries) ≡ is_entered l.number l.entries
