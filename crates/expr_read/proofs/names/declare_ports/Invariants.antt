use Rattle.std.proofs.Common.{◌≡◌, ◌++◌, drop}
use Rattle.expr_read.specs.Names.{port_names}
use Rattle.expr_read.proofs.names.declare_ports.Given as goal

abbrev pub invariant-loop-port : goal.invariant-loop-port
invariant-loop-port l = (l.number ≡ l.port-index) × (l.names ++ port_names l.space l.number (drop l.port-index l.ports) ≡ l.initial.names ++ port_names l.space 0 l.ports)
