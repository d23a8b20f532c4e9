use Rattle.std.proofs.Common.{◌≡◌, ℕ, length, slice_get, Some, subst, ap, ◌∙◌, rules}
use Rattle.term_graph.specs.declared.node.Node.TheVariants as node
use Rattle.term_graph.specs.Kept.{Adds, Makes}
use Rattle.term_graph.specs.Value.{vars_of}
use Rattle.term_graph.proofs.BuiltLemmas.{makes-var, kept-var}
use Rattle.term_graph.proofs.graph.Graph.var.Goals as goal

pub invariant_of-self-in-Ok : goal.invariant_of-self-in-Ok
invariant_of-self-in-Ok c =
    let long : c.len-number.result ≡ length c.self.inside.vars.items = search rules in
    let is : c.len-number.result ≡ length (vars_of c.self.inside.nodes.keys) = long ∙ ap length c.self.invariant.listed in
    kept-var c.self.inside.nodes.keys c.add.new.nodes.keys c.self.inside.widths.items c.add.new.widths.items c.self.inside.vars.items c.push.new.self.items c.args.width c.in-Ok.place c.self.invariant c.requires.wide c.requires.narrow
    (subst (λ (k : ℕ). Adds c.self.inside.nodes.keys c.self.inside.widths.items (node.Var c.args.width k) c.args.width c.add.new.nodes.keys c.add.new.widths.items) is c.in-Ok.ensures.adds)
    (subst (λ (k : ℕ). slice_get c.add.new.nodes.keys c.in-Ok.place ≡ Some (node.Var c.args.width k)) is c.in-Ok.ensures.at)
    (search (rules, c.in_ok-push.ensures.items))

pub returns-in-Ok-clause-made : goal.returns-in-Ok-clause-made
returns-in-Ok-clause-made c =
    let long : c.len-number.result ≡ length c.self.inside.vars.items = search rules in
    let is : c.len-number.result ≡ length (vars_of c.self.inside.nodes.keys) = long ∙ ap length c.self.invariant.listed in
    let makes : Makes c.self.inside.nodes.keys c.args.width c.add.new.nodes.keys c.in-Ok.place =
    makes-var c.self.inside.nodes.keys c.add.new.nodes.keys c.self.inside.widths.items c.add.new.widths.items c.args.width c.in-Ok.place c.self.invariant.built c.requires.wide c.requires.narrow
    (subst (λ (k : ℕ). Adds c.self.inside.nodes.keys c.self.inside.widths.items (node.Var c.args.width k) c.args.width c.add.new.nodes.keys c.add.new.widths.items) is c.in-Ok.ensures.adds)
    (subst (λ (k : ℕ). slice_get c.add.new.nodes.keys c.in-Ok.place ≡ Some (node.Var c.args.width k)) is c.in-Ok.ensures.at) in
    search (rules, makes)
