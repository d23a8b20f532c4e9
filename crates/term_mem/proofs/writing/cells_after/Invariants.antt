use Rattle.std.proofs.Common.{◌≡◌, List, take}
use Rattle.std.specs.Prelude.{slice_set}
use Rattle.knox_words.specs.Bits.{Bits}
use Rattle.term_graph.specs.Value.{value, width_of}
use Rattle.term_graph.specs.Kept.{Keeps}
use Rattle.term_mem.specs.Memories.{seen, AreCells}
use Rattle.term_mem.proofs.writing.cells_after.Given as goal

abbrev pub invariant-loop-number : goal.invariant-loop-number
invariant-loop-number l = record {
  kept : Keeps l.initial.g l.g;
  cells : AreCells l.g (width_of l.initial.g l.word) l.made.items;
  written : (v : List Bits) → seen v l.g l.made.items ≡ take l.number (slice_set (seen v l.initial.g l.cells) (value v l.initial.g l.index).value (value v l.initial.g l.word));
}
