use Rattle.std.proofs.Common.{◌≡◌, ◌-◌, ℕ, suc, sym, ◌∙◌, ap, subst, arith}
use Rattle.std.specs.Prelude.{slice_index_or}
use Rattle.lrat_check.specs.Marks.{index_of}
use Rattle.sat_core.specs.Resolved.{IsFirst}
use Rattle.sat_core.proofs.TrailLemmas.{first-told}
use Rattle.sat_core.proofs.trail.Trail.place_of.Goals as goal

back : (n : ℕ) → (n ≡ 0 → ⊥) → n ≡ suc (n - 1)
back n h = omega (arith, h)

pub returns-else-place-eq0 : goal.returns-else-place-eq0
returns-else-place-eq0 c =
    let e : slice_index_or c.self.inside.places.items (index_of c.args.lit) 0 ≡ suc (c.entry-place.result - 1) =
    ap (λ xs. slice_index_or xs (index_of c.args.lit) 0) (sym c.as_slice.ensures.value) ∙ sym c.entry-place.ensures ∙ back c.entry-place.result c.if-place-eq0.false in
    subst (λ ls. IsFirst ls c.args.lit (c.entry-place.result - 1)) c.self.view_is (first-told c.self.inside.places.items c.self.inside.literals.items c.args.lit (c.entry-place.result - 1) e c.self.invariant)
