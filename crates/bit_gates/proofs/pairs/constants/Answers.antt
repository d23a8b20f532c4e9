use Rattle.std.proofs.Common.{ap, ◌∙◌, ◌∷◌, ◌++◌, [], List}
use Rattle.bit_gates.specs.declared.signal.Signal.{Signal}
use Rattle.bit_gates.specs.declared.signal.Signal.TheVariants.{Constant}
use Rattle.bit_gates.proofs.WordLemmas.{map-more}
use Rattle.bit_gates.proofs.pairs.constants.Goals as goal

pub loop-i-preserved : goal.loop-i-preserved
loop-i-preserved c =
    c.in_ok-push.ensures.items
    ∙ (ap (λ (ys : List Signal). ys ++ Constant c.args.bit ∷ []) c.loop-i.invariant
    ∙ map-more (λ s. Constant c.args.bit) c.args.a.now c.loop-i.i c.signal.result c.signal.ensures)
