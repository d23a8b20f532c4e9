-- The store with a secret of one bit: its script is closed, by trying all choices. And how many bits the choices of each segment have.
use Rattle.std.proofs.Common.{◌≡◌, ℕ, List, [], ◌∷◌, map, true, false, refl, ap, ◌∙◌}
use Rattle.knox_theory.specs.Closed.{Closed}
use Rattle.knox_theory.specs.Numbered.{all_tried, is_closed_below}
use Rattle.knox_theory.specs.Segments.{Segment}
use Rattle.knox_theory.proofs.Widths.{tried-closed}
use Rattle.script_core.specs.Runs.{course_at}
use Rattle.pin_store.specs.Store.{lines, design, shown, leaked}
use Rattle.pin_store.specs.Hinted.{hints, parts}
use Rattle.pin_store.proofs.Driving.{patient}
use Rattle.pin_store.proofs.Hinting.{plain_right}
use Rattle.pin_store.proofs.Whole.{plain_parts, parts-are}

plain-tried : all_tried (plain_parts 1 (lines 1 shown) patient plain_right) ≡ true
plain-tried = refl

pub tried : all_tried (parts 1 shown) ≡ true
tried = ap all_tried (parts-are 1 (lines 1 shown) patient plain_right refl) ∙ plain-tried

pub closed : Closed (design 1 shown) (hints 1 shown)
closed = tried-closed (design 1 shown) (hints 1 shown) tried

-- not so the leaking one
plain-leaks : is_closed_below (course_at (plain_parts 1 (lines 1 leaked) patient plain_right) 1) 7 ≡ false
plain-leaks = refl

pub leaks : is_closed_below (course_at (parts 1 leaked) 1) 7 ≡ false
leaks = ap (λ (gs : List Segment). is_closed_below (course_at gs 1) 7) (parts-are 1 (lines 1 leaked) patient plain_right refl) ∙ plain-leaks

-- how many bits a run of each segment takes
abbrev choice_bits_of : List Segment → List ℕ
choice_bits_of gs = map (λ g. g.choice_bits) gs

pub bits-1 : choice_bits_of (parts 1 shown) ≡ 2 ∷ 7 ∷ 0 ∷ 2 ∷ 3 ∷ 3 ∷ 4 ∷ 4 ∷ []
bits-1 = ap choice_bits_of (parts-are 1 (lines 1 shown) patient plain_right refl) ∙ refl

pub bits-4 : choice_bits_of (parts 4 shown) ≡ 8 ∷ 16 ∷ 0 ∷ 8 ∷ 9 ∷ 9 ∷ 13 ∷ 13 ∷ []
bits-4 = ap choice_bits_of (parts-are 4 (lines 4 shown) patient plain_right refl) ∙ refl
