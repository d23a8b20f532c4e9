use Rattle.std.proofs.Common.{◌≡◌, ◌+◌, ◌≤◌, length}
use Rattle.script_core.specs.Hints.{item_obligations}
use Rattle.script_core.specs.Runs.{counted}
use Rattle.script_core.proofs.script.item_obligations.Given as goal

abbrev pub invariant-loop-item : goal.invariant-loop-item
invariant-loop-item l = (l.sum ≤ 18446744073709551615) × (counted (l.sum + item_obligations l.left) ≡ counted (item_obligations l.items))

abbrev pub decreases-loop-item : goal.decreases-loop-item
decreases-loop-item l = length l.left
