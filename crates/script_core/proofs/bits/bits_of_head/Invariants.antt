use Rattle.std.proofs.Common.{◌≡◌, ◌+◌, ◌≤◌, length, map}
use Rattle.knox_words.specs.Lists.{total}
use Rattle.knox_lang.specs.Operation.{arg_widths}
use Rattle.script_core.specs.Runs.{counted}
use Rattle.script_core.proofs.bits.bits_of_head.Given as goal

abbrev pub invariant-loop-arg : goal.invariant-loop-arg
invariant-loop-arg l = (l.sum ≤ 18446744073709551615) × (counted (l.sum + total (map (λ a. a.1) l.left)) ≡ counted (total (arg_widths l.head)))

abbrev pub decreases-loop-arg : goal.decreases-loop-arg
decreases-loop-arg l = length l.left
