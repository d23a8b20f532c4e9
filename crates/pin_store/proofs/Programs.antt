-- The segments of a device that is made of the store's parts, and runs of the program on them.
use Rattle.std.proofs.Common.{◌≡◌, ℕ, List, ap, ◌∙◌}
use Rattle.knox_words.specs.Lists.{Words}
use Rattle.knox_theory.specs.Course.{End, run}
use Rattle.knox_circuit.specs.Line.{Line}
use Rattle.emu_machine.specs.declared.device.Device.{Device}
use Rattle.script_core.specs.declared.parts.ScriptParts.{ScriptParts}
use Rattle.script_core.specs.Runs.{course_at, segments_of}
use Rattle.pin_store.specs.Hinted.{IsStore, script, parts, segment_run}

module _ (dev : Device) (p : ScriptParts) (g : ℕ) (cs : Words) (end : End) (said : end ≡ run (course_at (segments_of dev.circuit dev.spec dev.driver dev.emulator p) g) cs) where
  pub program-run : (w : ℕ) (output : List Line) → IsStore dev w output → p ≡ script → end ≡ segment_run g (parts w output) cs
  program-run w output s h = said ∙ (λ i. run (course_at (segments_of (s.circuit_is i) (s.spec_is i) (s.driver_is i) (s.emulator_is i) (h i)) g) cs)

  -- over choices whose run is known
  pub program-ends : (w : ℕ) (output : List Line) (choices : Words) (last : End) → IsStore dev w output → p ≡ script → cs ≡ choices → segment_run g (parts w output) choices ≡ last → end ≡ last
  program-ends w output choices last s h is e = program-run w output s h ∙ (ap (λ words. segment_run g (parts w output) words) is ∙ e)
