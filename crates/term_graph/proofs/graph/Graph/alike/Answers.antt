use Rattle.std.proofs.Common.{rules, ◌≡◌, true}
use Rattle.knox_words.specs.declared.op.Op2.TheVariants.{Add}
use Rattle.term_graph.specs.Chains.{links}
use Rattle.term_graph.proofs.ChainLemmas.{alike-from}
use Rattle.term_graph.proofs.graph.Graph.alike.Goals as goal

pub returns : goal.returns
returns c =
    let linked : links c.args.k Add ≡ true = search rules in
    let same : c.multiple-c.result.1 ≡ c.multiple-d.result.1 = search rules in
    rw c.op2_or-word.ensures (alike-from c.args.self.now c.args.k c.args.s c.args.u c.multiple-c.result.1 c.multiple-d.result.1 c.multiple-c.result.0 c.multiple-d.result.0 linked c.multiple-c.ensures c.multiple-d.ensures same c.requires.same)
