use Rattle.std.proofs.Common.{◌≡◌, ◌+◌, ℕ, false, sym, ◌∙◌, ap, subst}
use Rattle.std.specs.Prelude.{slice_set}
use Rattle.knox_cnf.specs.Literals.{has}
use Rattle.sat_core.specs.Tables.{Tells}
use Rattle.sat_core.proofs.TrailLemmas.{tells-same, tells-pushed}
use Rattle.sat_core.proofs.trail.Trail.push.Goals as goal

pub invariant_of-self : goal.invariant_of-self
invariant_of-self c = tells-same c.self.inside.places.items c.cover.new.table.items c.self.inside.literals.items c.cover.ensures.same c.self.invariant

pub invariant_of-self-in_err-push : goal.invariant_of-self-in_err-push
invariant_of-self-in_err-push c = subst (Tells c.cover.new.table.items) (sym c.in_err-push.ensures.items) (tells-same c.self.inside.places.items c.cover.new.table.items c.self.inside.literals.items c.cover.ensures.same c.self.invariant)

pub invariant_of-self-2 : goal.invariant_of-self-2
invariant_of-self-2 c =
    let new : has c.self.inside.literals.items c.args.lit ≡ false = ap (λ t. has t c.args.lit) c.self.view_is ∙ c.requires in
    subst (Tells c.note.new.table.items) (sym c.in_ok-push.ensures.items)
    (tells-pushed c.self.inside.places.items c.cover.new.table.items c.note.new.table.items c.self.inside.literals.items c.args.lit c.index-at.result c.index-at.ensures c.in_ok-cover.ensures.covered
    (c.note.ensures ∙ ap (slice_set c.cover.new.table.items c.index-at.result) (c.len.ensures ∙ c.in_ok-push.ensures.len ∙ ap (λ (n : ℕ). n + 1) c.self.inside.literals.ok.0))
    c.cover.ensures.same new c.self.invariant)
