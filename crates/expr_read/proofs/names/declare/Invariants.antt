use Rattle.std.proofs.Common.{◌≡◌, ◌++◌, drop}
use Rattle.expr_read.specs.Names.{numbered}
use Rattle.expr_read.proofs.names.declare.Given as goal

abbrev pub invariant-loop-pair : goal.invariant-loop-pair
invariant-loop-pair l = (l.number ≡ l.pair-index) × (l.names ++ numbered l.space l.number (drop l.pair-index l.pairs) ≡ l.initial.names ++ numbered l.space 0 l.pairs)
