use Rattle.std.proofs.Common.{rules, ◌≡◌, ◌+◌}
use Rattle.term_graph.specs.Value.{width_of}
use Rattle.term_graph.proofs.ExtendLemmas.{gives-slice_whole}
use Rattle.term_graph.proofs.graph.Graph.slice.Goals as goal

pub returns-then-high-whole-clause-value : goal.returns-then-high-whole-clause-value
returns-then-high-whole-clause-value c =
    let lowest : c.args.low ≡ 0 = search rules in
    let highest : c.args.high + 1 ≡ width_of c.args.self.now c.args.a = search rules in
    gives-slice_whole c.args.self.now c.args.a c.args.high c.args.low c.requires.within lowest highest
