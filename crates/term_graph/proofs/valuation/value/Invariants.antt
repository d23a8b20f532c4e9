use Rattle.std.proofs.Common.{◌≡◌, take}
use Rattle.term_graph.specs.Value.{values}
use Rattle.term_graph.proofs.valuation.value.Given as goal

abbrev pub invariant-loop-i : goal.invariant-loop-i
invariant-loop-i l = l.room.items ≡ values l.v.words (take l.i l.g)
