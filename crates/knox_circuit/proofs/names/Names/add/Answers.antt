use Rattle.std.proofs.Common.{◌∙◌, ap}
use Rattle.std.specs.List.{list_any}
use Rattle.knox_circuit.specs.Taken.{has}
use Rattle.knox_circuit.proofs.NamesLemmas.{is, inserted}
use Rattle.knox_circuit.proofs.names.Names.add.Goals as goal

pub returns-in-Ok : goal.returns-in-Ok
unfolding has
returns-in-Ok c = λ q. ap (list_any (is q)) c.in-Ok.ensures.keys ∙ inserted c.args.self.now.taken.keys c.args.symbol q
