-- Cells of a circuit as fields, so that a program names words of the circuit as it names its own.
use Rattle.std.specs.Prelude.{ℕ, ◌==◌, ◌&&◌, List, [], ◌∷◌, Option, Some, None, Bool, true, false}
use Rattle.std.specs.Str.{bytes_eq}
use Rattle.knox_circuit.specs.declared.port.Cell.{Cell}
use Rattle.knox_lang.specs.declared.parts.Field.{Field}

-- the field that a cell is: its name, its widths and the place of its first word
abbrev pub cell_field : Cell → Field
cell_field c = record { name = c.name; width = c.width; index = c.index; first = c.first }

abbrev pub same_index : Option ℕ → Option ℕ → Bool
same_index None None = true
same_index None (Some j) = false
same_index (Some i) None = false
same_index (Some i) (Some j) = i == j

-- whether two fields are the same
abbrev pub same_field : Field → Field → Bool
same_field a b = bytes_eq a.name b.name && a.width == b.width && same_index a.index b.index && a.first == b.first

-- whether some fields are cells, one for one
abbrev pub name_cells : List Field → List Cell → Bool
name_cells [] [] = true
name_cells [] (c ∷ cs) = false
name_cells (f ∷ fs) [] = false
name_cells (f ∷ fs) (c ∷ cs) = same_field f (cell_field c) && name_cells fs cs
