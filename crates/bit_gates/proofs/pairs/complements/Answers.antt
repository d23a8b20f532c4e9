use Rattle.std.proofs.Common.{ap, ◌∙◌, ◌∷◌, ◌++◌, [], List}
use Rattle.bit_gates.specs.declared.signal.Signal.{Signal}
use Rattle.bit_gates.specs.Gates.{opposite}
use Rattle.bit_gates.proofs.WordLemmas.{map-more}
use Rattle.bit_gates.proofs.pairs.complements.Goals as goal

pub loop-i-preserved : goal.loop-i-preserved
loop-i-preserved c =
    c.in_ok-push.ensures.items
    ∙ (ap (λ (s : Signal). c.loop-i.out.items ++ s ∷ []) c.complement.ensures
    ∙ (ap (λ (ys : List Signal). ys ++ opposite c.signal.result ∷ []) c.loop-i.invariant
    ∙ map-more opposite c.args.a.now c.loop-i.i c.signal.result c.signal.ensures))
