-- Which sorts an operator takes, and the sort of what it gives.
-- Standard: BTOR2 (Niemetz, Preiner, Wolf and Biere, CAV 2018).
use Rattle.std.specs.Prelude.{ℕ, ◌==◌, ◌&&◌, Option, Some, None, if◌then◌else◌}
use Rattle.knox_words.specs.declared.op.Op1.{Op1}
use Rattle.knox_words.specs.declared.op.Op2.{Op2}
use Rattle.knox_words.specs.Ops.{op1_width}
use Rattle.knox_words.specs.Typing.{op2_typed, slice_typed, extended}
use Rattle.circuit_nodes.specs.declared.node.SortOf.{SortOf}
use Rattle.circuit_nodes.specs.declared.node.SortOf.TheVariants.{Words, Arrays}
use Rattle.circuit_table.specs.Sorts.{are_one}

-- the sort of words of a width, where there is one
abbrev pub words_of : Option ℕ → Option SortOf
words_of None = None
words_of (Some w) = Some (Words w)

-- the sort of an operator's value on an operand; none where the operator doesn't take it
abbrev pub un_sort : Op1 → Option SortOf → Option SortOf
un_sort o (Some (Words w)) = Some (Words (op1_width o w))
un_sort o _ = None

abbrev pub bin_sort : Op2 → Option SortOf → Option SortOf → Option SortOf
bin_sort o (Some (Words w)) (Some (Words v)) = words_of (op2_typed o w v)
bin_sort o _ _ = None

-- of the bits from h down to l
abbrev pub slice_sort : Option SortOf → ℕ → ℕ → Option SortOf
slice_sort (Some (Words w)) h l = words_of (slice_typed w h l)
slice_sort _ h l = None

-- of a word in n bits more
abbrev pub extended_sort : Option SortOf → ℕ → Option SortOf
extended_sort (Some (Words w)) n = words_of (extended w n)
extended_sort _ n = None

-- of a choice between two words, or two arrays
abbrev pub ite_sort : Option SortOf → Option SortOf → Option SortOf → Option SortOf
ite_sort c a b = if are_one c (Some (Words 1)) && are_one a b then a else None

abbrev pub read_sort : Option SortOf → Option SortOf → Option SortOf
read_sort (Some (Arrays i e)) (Some (Words w)) = if i == w then Some (Words e) else None
read_sort _ _ = None

abbrev pub write_sort : Option SortOf → Option SortOf → Option SortOf → Option SortOf
write_sort (Some (Arrays i e)) (Some (Words w)) (Some (Words v)) = if i == w && e == v then Some (Arrays i e) else None
write_sort _ _ _ = None
