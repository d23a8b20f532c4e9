use Rattle.std.proofs.Common.{sym, ap, ◌∙◌}
use Rattle.std.proofs.lemmas.List.{nil_from_length}
use Rattle.knox_circuit.proofs.ChainsLemmas.{over_from, over_from-all}
use Rattle.knox_circuit.proofs.chains.lay_all.Goals as goal

pub returns : goal.returns
returns c =
    let left = c.loop-word.left.now in
    sym (ap (λ bs. over_from c.loop-word.at c.loop-word.known bs) (nil_from_length left c.in_default.ensures.cases))
    ∙ (c.loop-word.invariant.laid ∙ over_from-all c.args.known.now c.args.words.now)
