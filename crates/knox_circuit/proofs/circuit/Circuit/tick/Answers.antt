use Rattle.std.proofs.Common.{◌≡◌, ◌∙◌}
use Rattle.knox_circuit.proofs.EvaluationLemmas.{written-whole, ticks-are}
use Rattle.knox_circuit.proofs.circuit.Circuit.tick.Goals as goal

pub returns-clause-state : goal.returns-clause-state
returns-clause-state c =
    let old : c.as_mut_slice.result.now ≡ c.args.s.now.words = c.as_mut_slice.ensures.value ∙ (c.into_vec-words.ensures ∙ c.replace.ensures.value) in
    c.from_vec.ensures
    ∙ (written-whole c.into_vec-words.result.len c.tick.new.state c.as_mut_slice.result.now c.into_vec-words.result.items c.tick.auto.state c.as_mut_slice.ensures.len
    ∙ ticks-are c.args.self.now c.self.inside.lines c.self.inside.made.plan c.args.s.now.words c.as_mut_slice.result.now c.args.i.now.words c.as_slice.result.now c.tick.new.state
    c.self.view_is c.self.invariant.made.plan old c.as_slice.ensures c.tick.ensures)
