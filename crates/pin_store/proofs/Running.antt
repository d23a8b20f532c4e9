-- What is computed of the plain segments holds of the store's, and of those of its variants.
use Rattle.std.proofs.Common.{◌≡◌, ℕ, List, refl, ap, sym, subst, ◌∙◌}
use Rattle.knox_words.specs.Lists.{Words}
use Rattle.knox_theory.specs.declared.event.Event.{Event}
use Rattle.knox_theory.specs.Design.{Design}
use Rattle.knox_theory.specs.Course.{End, Failed, run}
use Rattle.knox_theory.specs.Script.{Script}
use Rattle.knox_theory.specs.Segments.{Segment, segments}
use Rattle.knox_theory.specs.Closed.{IsAmong, Falsifies}
use Rattle.knox_circuit.specs.Line.{Line}
use Rattle.driver_machine.specs.Left.{Left}
use Rattle.device_design.specs.Meaning.{design_of}
use Rattle.script_core.specs.Hints.{script_of}
use Rattle.script_core.specs.Runs.{course_at}
use Rattle.pin_store.specs.Store.{lines, shown, leaked, spec, driver_with, emulator}
use Rattle.pin_store.specs.Hinted.{script_with, parts_with, impatient_parts, trace_at}
use Rattle.pin_store.proofs.Plain.{plain_design}
use Rattle.pin_store.proofs.Driving.{Waiting, patient, impatient}
use Rattle.pin_store.proofs.Devices.{design-is}
use Rattle.pin_store.proofs.Hinting.{Valued, said, plain_right}
use Rattle.pin_store.proofs.Whole.{IsKnown, plain_parts, parts-are}

module _ (w : ℕ) (ls : List Line) (x : Waiting) (h : Valued) where
  abbrev the_design : Design Left
  the_design = design_of (record { lines = ls }) (spec w) (driver_with x.more w) (emulator w)

  abbrev the_script : Script Left
  the_script = script_of (record { lines = ls }) (spec w) (driver_with x.more w) (script_with (said h))

  pub run-row : IsKnown w ls x → (g : ℕ) (cs : Words) (end : End) → run (course_at (plain_parts w ls x h) g) cs ≡ end → run (course_at (segments the_design the_script) g) cs ≡ end
  run-row known g cs end e = ap (λ (gs : List Segment). run (course_at gs g) cs) (parts-are w ls x h known) ∙ e

  -- choices over which the run of a segment fails
  pub falsified : IsKnown w ls x → (n : ℕ) (cs : Words) (g : Segment) → IsAmong g (plain_parts w ls x h) → run g.course cs ≡ Failed n → Falsifies the_design the_script n cs
  falsified known n cs g among e = record { segment = g; listed = subst (λ (gs : List Segment). IsAmong g gs) (sym (parts-are w ls x h known)) among; fails = e }

  pub trace-row : IsKnown w ls x → (g : ℕ) (cs : Words) (events : List Event) → trace_at g (plain_design w ls x.waits x.more) (plain_parts w ls x h) cs ≡ events → trace_at g the_design (segments the_design the_script) cs ≡ events
  trace-row known g cs events e = (λ i. trace_at g (design-is w ls x i) (parts-are w ls x h known i) cs) ∙ e

-- with a secret of four bits
module _ (h : Valued) (g : ℕ) (cs : Words) (end : End) where
  pub store-run : run (course_at (plain_parts 4 (lines 4 shown) patient h) g) cs ≡ end → run (course_at (parts_with (said h) 4 shown) g) cs ≡ end
  store-run e = run-row 4 (lines 4 shown) patient h refl g cs end e

  pub leak-run : run (course_at (plain_parts 4 (lines 4 leaked) patient h) g) cs ≡ end → run (course_at (parts_with (said h) 4 leaked) g) cs ≡ end
  leak-run e = run-row 4 (lines 4 leaked) patient h refl g cs end e

-- by the impatient driver
pub stuck-run : (g : ℕ) (cs : Words) (end : End) → run (course_at (plain_parts 4 (lines 4 shown) impatient plain_right) g) cs ≡ end → run (course_at (impatient_parts 4) g) cs ≡ end
stuck-run g cs end e = run-row 4 (lines 4 shown) impatient plain_right refl g cs end e
