-- The symbols of the lines so far, as the code keeps them. No public clause cites it.
use Rattle.std.specs.Prelude.{◌≡◌, ℕ, List, Bool}
use Rattle.std.specs.List.{list_any}
use Rattle.std.specs.BTreeSet.{contains_by}
use Rattle.std.specs.Ordering.{nat_cmp}
use Rattle.std.specs.Cmp.Lexicographic.{slice_cmp}
use Rattle.circuit_table.specs.declared.line.Line.{Line}
use Rattle.knox_circuit.specs.declared.port.Role.{Role}
use Rattle.knox_circuit.specs.declared.names.Names.{Names}
use Rattle.knox_circuit.specs.Names.{bears}

-- whether a symbol is among some
unfoldable pub has : Names → List ℕ → Bool
has names symbol = contains_by (λ k. slice_cmp nat_cmp symbol k.now) names.taken

-- the symbols are those of the lines of a kind
abbrev pub Know : Names → Role → List Line → Type 0
Know names role lines = (symbol : List ℕ) → has names symbol ≡ list_any (bears role symbol) lines
