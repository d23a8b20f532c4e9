use Rattle.std.proofs.Common.{◌≡◌, ◌++◌, [], List, length}
use Rattle.circuit_table.specs.declared.line.Line.{Line}
use Rattle.knox_circuit.specs.declared.port.Role.TheVariants as role
use Rattle.knox_circuit.specs.Ports.{outputs_among}
use Rattle.knox_circuit.specs.Taken.{Know}
use Rattle.knox_circuit.proofs.tables.outputs.Given as goal

abbrev pub invariant-loop-line : goal.invariant-loop-line
invariant-loop-line l = (before : List Line) × Know l.names role.Output before × (l.ports ++ outputs_among before l.left l.rest ≡ outputs_among [] l.lines l.rows)

abbrev pub decreases-loop-line : goal.decreases-loop-line
decreases-loop-line l = length l.left
