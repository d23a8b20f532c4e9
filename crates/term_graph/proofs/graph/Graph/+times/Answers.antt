use Rattle.std.proofs.Common.{sym, ◌∙◌}
use Rattle.term_graph.proofs.ChainLemmas.{gives-times, keeps-through, units-at, units-far, product-width, later-width}
use Rattle.term_graph.proofs.graph.Graph.+times.Goals as goal

pub returns-clause-value : goal.returns-clause-value
returns-clause-value t c = gives-times c.args.self.now c.times.new.self c.multiples-2.new.self c.merged.new.self c.in_ok-p.p c.in_ok-q.q c.in_ok-t.t c.times.ensures.kept c.multiples-2.ensures.kept c.args.a c.args.s c.split-x.result.0 c.split-x.result.1 c.split-x.ensures c.requires.second c.requires.same c.in_ok-p.ensures.value c.in_ok-q.ensures.value c.in_ok-t.ensures.value

pub multiples-requires-2-clause-units : goal.multiples-requires-2-clause-units
multiples-requires-2-clause-units t c = units-at c.args.self.now c.times.new.self c.args.a c.split-x.result.1 c.args.units.now.zero c.args.units.now.one c.times.ensures.kept c.requires.units c.split-x.ensures.last c.split-x.ensures.last_width

pub merged-requires-clause-units : goal.merged-requires-clause-units
merged-requires-clause-units t c =
    units-far c.args.self.now c.times.new.self c.multiples-2.new.self c.args.a c.in_ok-p.p c.args.units.now.zero c.args.units.now.one c.times.ensures.kept c.multiples-2.ensures.kept c.requires.units
    (product-width c.args.self.now c.times.new.self c.multiples-2.new.self c.split-x.result.0 c.args.s c.in_ok-p.p c.args.a c.multiples-2.ensures.kept c.in_ok-p.ensures.value c.split-x.ensures.first_width (sym c.requires.same))

pub merged-requires-clause-same : goal.merged-requires-clause-same
merged-requires-clause-same t c =
    product-width c.args.self.now c.times.new.self c.multiples-2.new.self c.split-x.result.0 c.args.s c.in_ok-p.p c.args.a c.multiples-2.ensures.kept c.in_ok-p.ensures.value c.split-x.ensures.first_width (sym c.requires.same)
    ∙ sym (later-width c.args.self.now c.times.new.self c.multiples-2.new.self c.split-x.result.1 c.args.s c.in_ok-q.q c.args.a c.times.ensures.kept c.split-x.ensures.last c.requires.second c.in_ok-q.ensures.value c.split-x.ensures.last_width (sym c.requires.same))

pub returns-in_err-t-clause-kept : goal.returns-in_err-t-clause-kept
returns-in_err-t-clause-kept t c = keeps-through c.args.self.now c.times.new.self c.multiples-2.new.self c.merged.new.self c.times.ensures.kept c.multiples-2.ensures.kept c.merged.ensures.kept

pub returns-clause-kept : goal.returns-clause-kept
returns-clause-kept t c = keeps-through c.args.self.now c.times.new.self c.multiples-2.new.self c.merged.new.self c.times.ensures.kept c.multiples-2.ensures.kept c.merged.ensures.kept
