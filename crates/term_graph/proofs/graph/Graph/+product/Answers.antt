use Rattle.std.proofs.Common.{refl, sym, ◌∙◌}
use Rattle.term_graph.proofs.ChainLemmas.{gives-product, keeps-through, units-at, units-far, product-width, later-width}
use Rattle.term_graph.proofs.graph.Graph.+product.Goals as goal

pub returns-clause-value : goal.returns-clause-value
returns-clause-value t c = gives-product c.args.self.now c.product.new.self c.times-2.new.self c.merged.new.self c.in_ok-p.p c.in_ok-q.q c.in_ok-t.t c.product.ensures.kept c.times-2.ensures.kept c.args.a c.args.b c.split-y.result.0 c.split-y.result.1 c.split-y.ensures c.requires.first c.requires.same c.in_ok-p.ensures.value c.in_ok-q.ensures.value c.in_ok-t.ensures.value

pub times-requires-2-clause-units : goal.times-requires-2-clause-units
times-requires-2-clause-units t c = units-at c.args.self.now c.product.new.self c.args.a c.args.a c.args.units.now.zero c.args.units.now.one c.product.ensures.kept c.requires.units c.requires.first refl

pub merged-requires-clause-units : goal.merged-requires-clause-units
merged-requires-clause-units t c =
    units-far c.args.self.now c.product.new.self c.times-2.new.self c.args.a c.in_ok-p.p c.args.units.now.zero c.args.units.now.one c.product.ensures.kept c.times-2.ensures.kept c.requires.units
    (product-width c.args.self.now c.product.new.self c.times-2.new.self c.args.a c.split-y.result.0 c.in_ok-p.p c.args.a c.times-2.ensures.kept c.in_ok-p.ensures.value refl (c.split-y.ensures.first_width ∙ sym c.requires.same))

pub merged-requires-clause-same : goal.merged-requires-clause-same
merged-requires-clause-same t c =
    product-width c.args.self.now c.product.new.self c.times-2.new.self c.args.a c.split-y.result.0 c.in_ok-p.p c.args.a c.times-2.ensures.kept c.in_ok-p.ensures.value refl (c.split-y.ensures.first_width ∙ sym c.requires.same)
    ∙ sym (later-width c.args.self.now c.product.new.self c.times-2.new.self c.args.a c.split-y.result.1 c.in_ok-q.q c.args.a c.product.ensures.kept c.requires.first c.split-y.ensures.last c.in_ok-q.ensures.value refl (c.split-y.ensures.last_width ∙ sym c.requires.same))

pub returns-in_err-t-clause-kept : goal.returns-in_err-t-clause-kept
returns-in_err-t-clause-kept t c = keeps-through c.args.self.now c.product.new.self c.times-2.new.self c.merged.new.self c.product.ensures.kept c.times-2.ensures.kept c.merged.ensures.kept

pub returns-clause-kept : goal.returns-clause-kept
returns-clause-kept t c = keeps-through c.args.self.now c.product.new.self c.times-2.new.self c.merged.new.self c.product.ensures.kept c.times-2.ensures.kept c.merged.ensures.kept
