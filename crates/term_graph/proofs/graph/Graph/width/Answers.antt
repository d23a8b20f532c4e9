use Rattle.std.proofs.Common.{ap, arith, length, subst, sym, ◌<◌, ◌≡◌, ◌∙◌, List, rules, slice_index_or}
use Rattle.term_graph.specs.declared.node.Node.{Node}
use Rattle.term_graph.specs.Value.{width_of}
use Rattle.term_graph.proofs.WidthLemmas.{length-kept, width-read, value-width}
use Rattle.term_graph.proofs.graph.Graph.width.Goals as goal

pub index-requires : goal.index-requires
index-requires c =
    let long : length c.self.inside.widths.items ≡ length c.self.inside.nodes.keys = length-kept c.self.inside.nodes.keys c.self.inside.widths.items c.self.invariant.measured in
    let same : length c.self.inside.nodes.keys ≡ length c.args.self.now = ap length c.self.view_is in
    let lt : c.args.t < length c.args.self.now = c.requires in
    let is : c.place.result ≡ c.args.t = c.place.ensures in
    let found : c.place.result < length c.self.inside.widths.items = omega arith in
    search (rules, found)

pub returns-clause-width : goal.returns-clause-width
returns-clause-width c =
    let lt : c.args.t < length c.self.inside.nodes.keys = subst (λ (ns : List Node). c.args.t < length ns) (sym c.self.view_is) c.requires in
    let read : c.index.result.now ≡ slice_index_or c.self.inside.widths.items c.args.t c.index.result.now = search rules in
    width-read c.self.inside.nodes.keys c.self.inside.widths.items c.args.t c.index.result.now c.self.invariant.measured lt read
    ∙ ap (λ (ns : List Node). width_of ns c.args.t) c.self.view_is

pub returns-clause-each : goal.returns-clause-each
returns-clause-each c v = value-width v c.args.self.now c.args.t ∙ sym (returns-clause-width c)
