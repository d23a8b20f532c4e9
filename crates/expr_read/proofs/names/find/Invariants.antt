use Rattle.std.proofs.Common.{◌≡◌, drop, None}
use Rattle.expr_read.specs.Names.{found}
use Rattle.expr_read.proofs.names.find.Given as goal

abbrev pub invariant-loop-named : goal.invariant-loop-named
invariant-loop-named l = found l.group l.name l.found (drop l.named-index l.names) ≡ found l.group l.name None l.names
