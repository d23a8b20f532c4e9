use Rattle.std.proofs.Common.{◌≡◌, ◌+◌, ◌≤◌, length}
use Rattle.script_core.specs.Widths.{items_bits}
use Rattle.script_core.specs.Runs.{counted}
use Rattle.script_core.proofs.bits.bits_of_items.Given as goal

abbrev pub invariant-loop-item : goal.invariant-loop-item
invariant-loop-item l = (l.sum ≤ 18446744073709551615) × (counted (l.sum + items_bits l.per_tick l.left) ≡ counted (items_bits l.per_tick l.items))

abbrev pub decreases-loop-item : goal.decreases-loop-item
decreases-loop-item l = length l.left
