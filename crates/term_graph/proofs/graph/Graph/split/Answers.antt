use Rattle.std.proofs.Common.{rules, ◌≡◌, true}
use Rattle.term_graph.specs.Chains.{links}
use Rattle.term_graph.proofs.ChainLemmas.{splits-linked, splits-alone}
use Rattle.term_graph.proofs.graph.Graph.split.Goals as goal

pub returns-in-Bin : goal.returns-in-Bin
returns-in-Bin c =
    let linked : links c.args.k c.in-Bin.o ≡ true = search rules in
    splits-linked c.args.self.now c.args.k c.args.a c.in-Bin.x c.in-Bin.s c.in-Bin.o c.in-Bin.ensures.graph.built c.in-Bin.ensures.node c.requires.within linked

pub returns-in_default : goal.returns-in_default
returns-in_default c = rw c.unit.ensures (splits-alone c.args.self.now c.args.k c.args.a c.args.units.now.zero c.args.units.now.one c.requires.within c.requires.units)
