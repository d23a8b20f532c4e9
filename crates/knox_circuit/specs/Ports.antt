-- The inputs and outputs of a circuit.
use Rattle.std.specs.Prelude.{ℕ, List, [], ◌∷◌, ◌++◌, map}
use Rattle.circuit_nodes.specs.declared.node.SortOf.TheVariants.{Words}
use Rattle.circuit_nodes.specs.declared.node.Node.TheVariants as node
use Rattle.circuit_nodes.specs.declared.node.Kind.{Kind}
use Rattle.circuit_nodes.specs.declared.node.Kind.TheVariants as kind
use Rattle.circuit_nodes.specs.declared.node.Row.{Row}
use Rattle.circuit_table.specs.declared.line.Line.{Line}
use Rattle.circuit_table.specs.Rows.{rows_of}
use Rattle.knox_circuit.specs.declared.port.Port.{Port}
use Rattle.knox_circuit.specs.declared.port.Role.{Role}
use Rattle.knox_circuit.specs.declared.port.Role.TheVariants as role
use Rattle.knox_circuit.specs.Names.{name_among}

abbrev pub port : Role → List Line → Line → ℕ → Port
port k before l width = record { name = name_among k before l.symbol; number = l.number; width = width }

-- the port of a line after others, where it is an input
abbrev pub input_port : List Line → Line → Kind → List Port
input_port before l (kind.Value (Words w) (node.Input p v)) = port role.Input before l w ∷ []
input_port before l _ = []

abbrev pub inputs_among : List Line → List Line → List Row → List Port
inputs_among before [] rows = []
inputs_among before (l ∷ ls) [] = []
inputs_among before (l ∷ ls) (r ∷ rs) = input_port before l r.kind ++ inputs_among (l ∷ before) ls rs

-- the inputs in line order
abbrev pub inputs_of : List Line → List Port
inputs_of lines = inputs_among [] lines (rows_of lines)

-- the port of a line after others, where it is an output
abbrev pub output_port : List Line → Line → Kind → List Port
output_port before l (kind.Output a w) = port role.Output before l w ∷ []
output_port before l _ = []

abbrev pub outputs_among : List Line → List Line → List Row → List Port
outputs_among before [] rows = []
outputs_among before (l ∷ ls) [] = []
outputs_among before (l ∷ ls) (r ∷ rs) = output_port before l r.kind ++ outputs_among (l ∷ before) ls rs

-- the outputs in line order
abbrev pub outputs_of : List Line → List Port
outputs_of lines = outputs_among [] lines (rows_of lines)

-- the widths of the input words
abbrev pub input_widths : List Line → List ℕ
input_widths lines = map (λ (p : Port). p.width) (inputs_of lines)

-- the widths of the output words
abbrev pub output_widths : List Line → List ℕ
output_widths lines = map (λ (p : Port). p.width) (outputs_of lines)
