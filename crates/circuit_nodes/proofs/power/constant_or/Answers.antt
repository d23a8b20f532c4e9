use Rattle.std.proofs.Common.{◌≡◌, ◌<◌, length, ap, sym, ◌∙◌, arith, replicate, slice_get, Some}
use Rattle.circuit_nodes.specs.declared.node.Node.TheVariants as node
use Rattle.circuit_nodes.specs.Starts.{values, words_by}
use Rattle.circuit_nodes.proofs.StartsLemmas.{constant-plain, constant-turned}
use Rattle.circuit_nodes.proofs.power.constant_or.Goals as goal

pub returns-then-arg-clause-words : goal.returns-then-arg-clause-words
returns-then-arg-clause-words c = λ s state old noise.
    let lt : c.in-Word.arg.node < length c.args.nodes.now = omega arith in
    let is : slice_get c.args.nodes.now c.in-Word.arg.node ≡ Some (node.Const c.in-Const.word) = c.node_at.ensures ∙ ap Some c.in-Const.is in
    ap (replicate s.words) c.op1.ensures
    ∙ (constant-turned c.args.nodes.now c.in-Word.arg c.in-Const.word lt is c.if-arg.true s state old noise
    ∙ ap (words_by (values c.args.nodes.now state) s old noise) (sym c.in-Word.is))

pub returns-else-arg-clause-words : goal.returns-else-arg-clause-words
returns-else-arg-clause-words c = λ s state old noise.
    let lt : c.in-Word.arg.node < length c.args.nodes.now = omega arith in
    let is : slice_get c.args.nodes.now c.in-Word.arg.node ≡ Some (node.Const c.in-Const.word) = c.node_at.ensures ∙ ap Some c.in-Const.is in
    constant-plain c.args.nodes.now c.in-Word.arg c.in-Const.word lt is c.if-arg.false s state old noise
    ∙ ap (words_by (values c.args.nodes.now state) s old noise) (sym c.in-Word.is)
