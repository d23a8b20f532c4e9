-- Widths that are appended one after another.
use Rattle.std.proofs.Common.{◌≡◌, List, [], ◌++◌, ap, sym, ◌∙◌, append_assoc, append-nil}

-- one more part of a list whose front is made
pub more-made : {A : Type 0} (made one left whole new : List A) → new ≡ made ++ one → made ++ (one ++ left) ≡ whole → new ++ left ≡ whole
more-made made one left whole new e h = ap (λ z. z ++ left) e ∙ (append_assoc made one left ∙ h)

pub all-made : {A : Type 0} (made whole : List A) → made ++ [] ≡ whole → made ≡ whole
all-made made whole h = sym (append-nil made) ∙ h

pub ruleset widening = (more-made, all-made)
