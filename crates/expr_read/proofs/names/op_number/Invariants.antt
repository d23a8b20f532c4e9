use Rattle.std.proofs.Common.{◌≡◌, drop}
use Rattle.expr_read.specs.Names.{op_from, op_number}
use Rattle.expr_read.proofs.names.op_number.Given as goal

abbrev pub invariant-loop-number : goal.invariant-loop-number
invariant-loop-number l = op_from l.number l.name (drop l.number l.ops) ≡ op_number l.name l.ops
