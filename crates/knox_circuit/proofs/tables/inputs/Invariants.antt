use Rattle.std.proofs.Common.{◌≡◌, ◌++◌, [], List, length}
use Rattle.circuit_table.specs.declared.line.Line.{Line}
use Rattle.knox_circuit.specs.declared.port.Role.TheVariants as role
use Rattle.knox_circuit.specs.Ports.{inputs_among}
use Rattle.knox_circuit.specs.Taken.{Know}
use Rattle.knox_circuit.proofs.tables.inputs.Given as goal

abbrev pub invariant-loop-line : goal.invariant-loop-line
invariant-loop-line l = (before : List Line) × Know l.names role.Input before × (l.ports ++ inputs_among before l.left l.rest ≡ inputs_among [] l.lines l.rows)

abbrev pub decreases-loop-line : goal.decreases-loop-line
decreases-loop-line l = length l.left
