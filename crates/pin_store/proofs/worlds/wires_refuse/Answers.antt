use Rattle.std.proofs.Common.{refl}
use Rattle.pin_store.specs.Events.{in_wire, wire_answers}
use Rattle.pin_store.proofs.Rows.{store-real, store-ideal, leak-ideal}
use Rattle.pin_store.proofs.worlds.wires_refuse.Goals as goal

pub returns-clause-real : goal.returns-clause-real
returns-clause-real c = store-real 4 in_wire wire_answers refl

pub returns-clause-ideal : goal.returns-clause-ideal
returns-clause-ideal c = store-ideal 4 in_wire wire_answers refl

pub returns-clause-leak : goal.returns-clause-leak
returns-clause-leak c = leak-ideal 4 in_wire wire_answers refl
