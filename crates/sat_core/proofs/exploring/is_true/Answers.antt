use Rattle.std.proofs.Common.{arith, inl, inr}
use Rattle.sat_core.proofs.exploring.is_true.Goals as goal

pub returns-in-None : goal.returns-in-None
returns-in-None c = λ h. elim c.in-None.ensures [
  | inl e ↦ (let r = c.requires in absurd (omega (arith, e, r)))
  | inr e ↦ absurd (omega (arith, e, h))
]
