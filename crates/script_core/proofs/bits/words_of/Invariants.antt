use Rattle.std.proofs.Common.{◌≡◌, ◌^◌, ◌≤◌}
use Rattle.script_core.specs.Runs.{counted}
use Rattle.script_core.proofs.bits.words_of.Given as goal

abbrev pub invariant-loop : goal.invariant-loop
invariant-loop l = (l.counter ≤ l.end) × (l.words ≡ counted (2 ^ l.counter))
