use Rattle.std.proofs.Common.{◌≡◌, drop}
use Rattle.expr_read.specs.Names.{is_declared}
use Rattle.expr_read.proofs.names.is_declared.Given as goal

abbrev pub invariant-loop-pair : goal.invariant-loop-pair
invariant-loop-pair l = is_declared l.name (drop l.pair-index l.pairs) ≡ is_declared l.name l.pairs
