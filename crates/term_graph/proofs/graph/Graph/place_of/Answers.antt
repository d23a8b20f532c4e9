use Rattle.std.proofs.Common.{[], sym, ap, subst, List, slice_get, ◌∙◌, ◌≡◌}
use Rattle.term_graph.specs.declared.node.Node.{Node}
use Rattle.term_graph.specs.Kept.{Adds}
use Rattle.term_graph.specs.Built.{IsBuilt, IsNext}
use Rattle.term_graph.specs.Value.{level, value}
use Rattle.term_graph.proofs.BuiltLemmas.{gives-added, kept-plain, kept-added}
use Rattle.term_graph.proofs.graph.Graph.place_of.Goals as goal

pub returns-clause-kept : goal.returns-clause-kept
returns-clause-kept c =
    kept-added c.args.self.now c.self.inside.widths.items c.args.node c.args.width c.add.new.nodes.keys c.add.new.widths.items
    (subst (λ (ns : List Node). Adds ns c.self.inside.widths.items c.args.node c.args.width c.add.new.nodes.keys c.add.new.widths.items) c.self.view_is c.in_ok-place.ensures.adds)
    c.requires.not_var

pub returns-clause-value : goal.returns-clause-value
returns-clause-value c =
    gives-added c.args.self.now c.self.inside.widths.items c.args.node c.args.width c.add.new.nodes.keys c.add.new.widths.items c.at.result
    (subst (λ (ns : List Node). Adds ns c.self.inside.widths.items c.args.node c.args.width c.add.new.nodes.keys c.add.new.widths.items) c.self.view_is c.in_ok-place.ensures.adds)
    (subst IsBuilt c.self.view_is c.self.invariant.built)
    c.requires.next
    (ap (slice_get c.add.new.nodes.keys) c.at.ensures ∙ c.in_ok-place.ensures.at)

pub invariant_of-self-2 : goal.invariant_of-self-2
invariant_of-self-2 c =
    kept-plain c.self.inside.nodes.keys c.self.inside.widths.items c.self.inside.vars.items c.args.node c.args.width c.add.new.nodes.keys c.add.new.widths.items c.self.invariant
    (subst (λ (ns : List Node). IsNext ns c.args.node) (sym c.self.view_is) c.requires.next)
    c.in_ok-place.ensures.adds
    c.requires.not_var
    (subst (λ (ns : List Node). c.args.width ≡ (level [] (value [] ns) c.args.node).width) (sym c.self.view_is) c.requires.wide)
