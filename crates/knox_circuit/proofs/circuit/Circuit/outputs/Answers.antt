use Rattle.knox_circuit.proofs.EvaluationLemmas.{outputs-are}
use Rattle.knox_circuit.proofs.circuit.Circuit.outputs.Goals as goal

pub returns-clause-out : goal.returns-clause-out
returns-clause-out c =
    outputs-are c.args.self.now c.self.inside.lines c.self.inside.made.plan c.args.s.now.words c.as_slice.result.now c.args.i.now.words c.as_slice-2.result.now c.outputs.new.out
    c.self.view_is c.self.invariant.made.plan c.as_slice.ensures c.as_slice-2.ensures c.outputs.ensures
