use Rattle.std.proofs.Common.{◌≤◌, length}
use Rattle.knox_circuit.proofs.chains.meeting.Given as goal

abbrev pub invariant-loop-at : goal.invariant-loop-at
invariant-loop-at l = record {
  stands : l.before ≤ length l.nodes;
  passed : l.before ≤ length l.passed;
}

abbrev pub decreases-loop-at : goal.decreases-loop-at
decreases-loop-at l = l.before
