-- The leaking variant, and the one with the impatient driver: their scripts aren't closed, and their worlds don't agree.
use Rattle.std.proofs.Common.{◌≡◌, [], ◌∷◌, inl, inr, refl, ap, sym, ◌∙◌}
use Rattle.knox_words.specs.Bits.{Bits, bits}
use Rattle.knox_theory.specs.declared.event.Answer.TheVariants.{Nothing}
use Rattle.knox_theory.specs.Agreement.{Agree}
use Rattle.knox_theory.specs.Closed.{Closed, Falsifies}
use Rattle.device_design.specs.Meaning.{device_of}
use Rattle.pin_store.specs.Store.{lines, device, design, shown, leaked, impatient_device, impatient_design}
use Rattle.pin_store.specs.Events.{first_leak, showing, first_stuck, stuck_at_once, set_at_once}
use Rattle.pin_store.specs.Hinted.{hints, impatient_hints, impatient_parts, parts, chosen, called, trace_at}
use Rattle.pin_store.proofs.Driving.{patient, impatient}
use Rattle.pin_store.proofs.Hinting.{plain_right}
use Rattle.pin_store.proofs.Running.{falsified, trace-row}
use Rattle.pin_store.proofs.Rows.{leak-real, leak-ideal, stuck-real, stuck-ideal}

-- ---- the leaking variant

pub leak-falsified : Falsifies (design 4 leaked) (hints 4 leaked) 3 (chosen 0 0 0 0 0 0)
leak-falsified = falsified 4 (lines 4 leaked) patient plain_right refl 3 (chosen 0 0 0 0 0 0) _ (inr (inl refl)) refl

pub leak-trace : trace_at 1 (design 4 leaked) (parts 4 leaked) (chosen 0 0 0 0 0 0) ≡ first_leak
leak-trace = trace-row 4 (lines 4 leaked) patient plain_right refl 1 (chosen 0 0 0 0 0 0) first_leak refl

pub leak-open : Closed (design 4 leaked) (hints 4 leaked) → ⊥
leak-open closed = closed.never 3 (chosen 0 0 0 0 0 0) leak-falsified

leak-answers : Agree (device 4 leaked) → Nothing ∷ showing 1 1 ≡ Nothing ∷ showing 0 0
unfolding device_of
leak-answers agree = sym (leak-real 4 first_leak (Nothing ∷ showing 1 1) refl) ∙ (agree [] refl first_leak ∙ leak-ideal 4 first_leak (Nothing ∷ showing 0 0) refl)

numbers-differ : (bits 1 1).value ≡ 0 → ⊥
numbers-differ e = cc

words-differ : bits 1 1 ≡ bits 1 0 → ⊥
words-differ e = numbers-differ (ap (λ (b : Bits). b.value) e)

leaks-differ : Nothing ∷ showing 1 1 ≡ Nothing ∷ showing 0 0 → ⊥
leaks-differ e =
    let one : bits 1 1 ≡ bits 1 0 = cc in
    words-differ one

pub leak-disagrees : Agree (device 4 leaked) → ⊥
leak-disagrees agree = leaks-differ (leak-answers agree)

-- ---- the impatient driver

pub stuck-falsified : Falsifies (impatient_design 4) (impatient_hints 4) 9 (called 0 0 0 9)
stuck-falsified = falsified 4 (lines 4 shown) impatient plain_right refl 9 (called 0 0 0 9) _ (inr (inr (inr (inr (inr (inr (inl refl))))))) refl

pub stuck-trace : trace_at 6 (impatient_design 4) (impatient_parts 4) (called 0 0 0 9) ≡ first_stuck
stuck-trace = trace-row 4 (lines 4 shown) impatient plain_right refl 6 (called 0 0 0 9) first_stuck refl

pub stuck-open : Closed (impatient_design 4) (impatient_hints 4) → ⊥
stuck-open closed = closed.never 9 (called 0 0 0 9) stuck-falsified

stuck-answers : Agree (impatient_device 4) → stuck_at_once ≡ set_at_once
unfolding device_of
stuck-answers agree = sym (stuck-real 4 first_stuck stuck_at_once refl) ∙ (agree [] refl first_stuck ∙ stuck-ideal 4 first_stuck set_at_once refl)

stuck-differ : stuck_at_once ≡ set_at_once → ⊥
stuck-differ e = cc

pub stuck-disagrees : Agree (impatient_device 4) → ⊥
stuck-disagrees agree = stuck-differ (stuck-answers agree)
