use Rattle.std.proofs.Common.{◌≡◌, ◌++◌, replicate}
use Rattle.knox_circuit.proofs.many.push_many.Given as goal

abbrev pub invariant-loop-k : goal.invariant-loop-k
invariant-loop-k g l = l.list.items ≡ l.fn.list.items ++ replicate l._k l.entry
