use Rattle.std.proofs.Common.{◌≡◌, ◌+◌, ◌≤◌, length}
use Rattle.script_core.specs.Hints.{obligations}
use Rattle.script_core.specs.Runs.{counted}
use Rattle.script_core.proofs.script.Script.obligations.Given as goal

abbrev pub invariant-loop-section : goal.invariant-loop-section
invariant-loop-section l = (l.sum ≤ 18446744073709551615) × (counted (l.sum + obligations l.left) ≡ counted (obligations l.fn.self.sections))

abbrev pub decreases-loop-section : goal.decreases-loop-section
decreases-loop-section l = length l.left
