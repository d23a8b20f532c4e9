-- Memories of terms: a list of terms of one width, one for each number that an index can have.
-- Standard: arrays read and written as lists are, as in SMT-LIB's theory ArraysEx.
use Rattle.std.specs.Prelude.{ℕ, ◌≡◌, ◌<◌, ◌^◌, List, length, map}
use Rattle.std.specs.List.{All}
use Rattle.knox_words.specs.Bits.{Bits}
use Rattle.term_graph.specs.declared.node.Node.{Node}
use Rattle.term_graph.specs.Value.{value, width_of}

-- the words of a memory's cells under a valuation
abbrev pub seen : List Bits → List Node → List ℕ → List Bits
seen v ns cells = map (value v ns) cells

-- a term of a graph, of a width
pub record IsCell (ns : List Node) (w t : ℕ) : Type 0 where
  pub within : t < length ns
  pub wide : width_of ns t ≡ w

-- terms of a graph, all of one width
abbrev pub AreCells : List Node → ℕ → List ℕ → Type 0
AreCells ns w cells = All (IsCell ns w) cells

-- a cell of width w for each word of width i
pub record IsMemory (ns : List Node) (i w : ℕ) (cells : List ℕ) : Type 0 where
  pub size : length cells ≡ 2 ^ i
  pub alike : AreCells ns w cells
