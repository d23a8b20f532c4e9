-- Sorts: what they are, compared whatever the lines that declare them.
-- Standard: BTOR2 (Niemetz, Preiner, Wolf and Biere, CAV 2018).
use Rattle.std.specs.Prelude.{ℕ, ◌==◌, ◌&&◌, nat_le, Bool, true, false, Option, Some, None}
use Rattle.circuit_nodes.specs.declared.node.SortOf.{SortOf}
use Rattle.circuit_nodes.specs.declared.node.SortOf.TheVariants.{Words, Arrays}

abbrev pub same_sort : SortOf → SortOf → Bool
same_sort (Words w) (Words v) = w == v
same_sort (Arrays i e) (Arrays j f) = i == j && e == f
same_sort _ _ = false

-- whether two sorts stand and are one
abbrev pub are_one : Option SortOf → Option SortOf → Bool
are_one (Some s) (Some t) = same_sort s t
are_one _ _ = false

-- whether a sort is one of arrays
abbrev pub is_arrays : SortOf → Bool
is_arrays (Words w) = false
is_arrays (Arrays i e) = true

-- the sort of the words of arrays
abbrev pub element_of : SortOf → Option SortOf
element_of (Arrays i e) = Some (Words e)
element_of (Words w) = None

-- the width of a word, or of the words of an array
abbrev pub word_width : SortOf → ℕ
word_width (Words w) = w
word_width (Arrays i e) = e

-- a width of 1 up to some number
abbrev pub is_width_up_to : ℕ → ℕ → Bool
is_width_up_to most w = nat_le 1 w && nat_le w most

-- whether the widths of a sort are in their limits: words have 1 to 128 bits, indices 1 to 12
abbrev pub is_sort : SortOf → Bool
is_sort (Words w) = is_width_up_to 128 w
is_sort (Arrays i e) = is_width_up_to 12 i && is_width_up_to 128 e
