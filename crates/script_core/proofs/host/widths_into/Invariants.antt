use Rattle.std.proofs.Common.{◌≡◌, ◌++◌, length, map}
use Rattle.script_core.proofs.host.widths_into.Given as goal

abbrev pub invariant-loop-arg : goal.invariant-loop-arg
invariant-loop-arg l = l.out.items ++ map (λ a. a.1) l.left ≡ map (λ a. a.1) l.args

abbrev pub decreases-loop-arg : goal.decreases-loop-arg
decreases-loop-arg l = length l.left
