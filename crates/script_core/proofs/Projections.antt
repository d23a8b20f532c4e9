-- What the design of a device and its script are, part by part.
use Rattle.std.proofs.Common.{◌≡◌, ◌∙◌, [], length, Bool, refl, sym, ap}
use Rattle.knox_words.specs.Lists.{Words, same_words}
use Rattle.knox_theory.specs.Device.{Ticked, answered}
use Rattle.knox_theory.specs.Script.{State}
use Rattle.knox_theory.specs.WireSegments.{same_outs, ticked, is_refined}
use Rattle.knox_circuit.specs.Cells.{cells_of, keep_mask}
use Rattle.knox_circuit.specs.Circuit.{output_words, state_after_tick}
use Rattle.knox_words.specs.Lists.{pick}
use Rattle.emu_machine.specs.declared.device.Device.{Device}
use Rattle.emu_machine.specs.Dialogue.{tick_dialogue}
use Rattle.emu_machine.specs.Emulator.{emulator_outputs, emulator_after_tick, fields_after_tick}
use Rattle.device_design.specs.Meaning.{design_of, device_of}
use Rattle.device_design.proofs.DesignLemmas.{fit-together}
use Rattle.script_core.specs.declared.parts.ScriptParts.{ScriptParts}
use Rattle.script_core.specs.Hints.{refines, script_of}
use Rattle.script_core.specs.Reached.{design, script}

pub same_outs-are : (v : Device) (st : State) (ins : Words) → same_outs (design v) st ins ≡ same_words (output_words v.circuit.lines st.cells ins) (emulator_outputs v.emulator st.emu ins)
unfolding design_of device_of
same_outs-are v st ins = refl

pub is_refined-are : (v : Device) (p : ScriptParts) (st : State) → is_refined (design v) (script v p) st ≡ refines v.spec.funs (cells_of v.circuit.lines) v.driver.keep p.refine st.fields (pick (keep_mask (cells_of v.circuit.lines) v.driver.keep) st.cells)
unfolding design_of device_of script_of
is_refined-are v p st = refl

pub ruleset parts_seen = (same_outs-are, is_refined-are)

-- a tick of circuit and emulator, where the dialogue of a tick ends with these words
pub both-ticked : (v : Device) (st : State) (ins fields cells emu : Words) →
    answered (device_of v.circuit v.spec v.driver v.emulator) st.fields (tick_dialogue v.emulator st.emu ins) ≡ record { fields = fields_after_tick v.spec v.emulator st.fields st.emu ins; emu = emulator_after_tick v.spec v.emulator st.fields st.emu ins; copy = [] } →
    fields ≡ fields_after_tick v.spec v.emulator st.fields st.emu ins → cells ≡ state_after_tick v.circuit.lines st.cells ins → emu ≡ emulator_after_tick v.spec v.emulator st.fields st.emu ins →
    record { fields = fields; cells = cells; emu = emu; copy = [] } ≡ ticked (design v) st ins
unfolding design_of device_of
both-ticked v st ins fields cells emu told f x e = λ i. record {
  fields = (f ∙ sym (ap (λ (t : Ticked). t.fields) told)) i;
  cells = x i;
  emu = (e ∙ sym (ap (λ (t : Ticked). t.emu) told)) i;
  copy = sym (ap (λ (t : Ticked). t.copy) told) i;
}

-- a device has a truth value for each cell
pub keep-fits : (v : Device) → length v.driver.keep ≡ length (cells_of v.circuit.lines)
keep-fits v = (fit-together v.circuit v.spec v.driver v.emulator v.fits).keep

-- whether outputs are equal, from the outputs themselves
pub shown-same : (v : Device) (st : State) (ins shown emulated : Words) (b : Bool) → b ≡ same_words shown emulated → shown ≡ output_words v.circuit.lines st.cells ins → emulated ≡ emulator_outputs v.emulator st.emu ins → b ≡ same_outs (design v) st ins
shown-same v st ins shown emulated b same s e = same ∙ ((λ i. same_words (s i) (e i)) ∙ sym (same_outs-are v st ins))
