-- The names of lines. A line's symbol names it, where no earlier line of the same kind has that symbol.
-- The project's own: a symbol that begins with `@` names nothing.
use Rattle.std.specs.Prelude.{ℕ, ◌==◌, ◌&&◌, List, [], ◌∷◌, Bool, true, false, if◌then◌else◌}
use Rattle.std.specs.List.{list_any}
use Rattle.std.specs.Str.{bytes_eq}
use Rattle.circuit_table.specs.declared.line.Shape.{Shape}
use Rattle.circuit_table.specs.declared.line.Shape.TheVariants as shape
use Rattle.circuit_table.specs.declared.line.Line.{Line}
use Rattle.knox_circuit.specs.declared.port.Role.{Role}
use Rattle.knox_circuit.specs.declared.port.Role.TheVariants as role

-- the name that a symbol gives, or nothing where it begins with `@`
abbrev pub name_of : List ℕ → List ℕ
name_of [] = []
name_of (b ∷ bs) = if b == 64 then [] else b ∷ bs

abbrev pub plays : Role → Shape → Bool
plays role.Input (shape.Input s) = true
plays role.Output (shape.Output a) = true
plays role.State (shape.State s) = true
plays _ _ = false

-- whether a line of a kind has a symbol
abbrev pub bears : Role → List ℕ → Line → Bool
bears k symbol l = plays k l.shape && bytes_eq l.symbol symbol

-- the name that a line's symbol gives it, after the lines before it
abbrev pub name_among : Role → List Line → List ℕ → List ℕ
name_among k before symbol = if list_any (bears k symbol) before then [] else name_of symbol
