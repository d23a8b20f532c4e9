use Rattle.std.proofs.Common.{◌≡◌, drop}
use Rattle.knox_edge.specs.{Shelf.entry_of, Texts.named_of}
use Rattle.knox_edge.proofs.memory.entry.Given as goal

abbrev pub invariant-loop-called : goal.invariant-loop-called
invariant-loop-called l = entry_of (named_of (drop l.called-index l.held)) l.name ≡ entry_of (named_of l.held) l.name
