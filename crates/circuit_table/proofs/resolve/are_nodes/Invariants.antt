use Rattle.std.proofs.Common.{◌≡◌, length}
use Rattle.circuit_table.specs.Rows.{all_operands, is_operand}
use Rattle.circuit_table.proofs.resolve.are_nodes.Given as goal

abbrev pub invariant-loop-a : goal.invariant-loop-a
invariant-loop-a l = all_operands is_operand l.table l.left ≡ all_operands is_operand l.table l.operands

abbrev pub decreases-loop-a : goal.decreases-loop-a
decreases-loop-a l = length l.left
