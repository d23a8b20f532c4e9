-- The store with a secret of one bit: its design is lawful and its script is closed, so its worlds agree.
use Rattle.std.proofs.Common.{◌≡◌, ℕ, List, [], Some, Bool, true, refl, sym, ◌∙◌, subst}
use Rattle.knox_theory.specs.Agreement.{Agree}
use Rattle.knox_theory.specs.Closed.{Closed}
use Rattle.knox_theory.specs.Lawful.{IsDesign}
use Rattle.knox_theory.specs.Script.{HostSections, Script, IsScript, HasCallLocations}
use Rattle.knox_theory.proofs.Agreeing.{agree}
use Rattle.knox_theory.proofs.Listed.{closed-host, closed-wires}
use Rattle.knox_circuit.specs.Line.{Line}
use Rattle.knox_words.specs.Lists.{zeros_or}
use Rattle.knox_words.proofs.PickLemmas.{fit-pick, fit-merge, pick-merge-fit}
use Rattle.knox_circuit.specs.Cells.{cells_of, state_widths, keep_mask}
use Rattle.circuit_laws.proofs.CircuitLemmas.{zero-state, state-count, tick-keeps, factory-keeps, power-keeps, outputs-keep, power-kept, power-alone, rom-count, factory-agrees, tick-agrees, power-agrees}
use Rattle.driver_machine.specs.Left.{Left}
use Rattle.device_design.proofs.FitsLemmas.{keeps-states}
use Rattle.device_design.proofs.LawfulLemmas.{is-driver, known}
use Rattle.emu_machine.specs.Fits.{fits_device}
use Rattle.device_design.specs.Meaning.{design_of}
use Rattle.device_design.proofs.DesignLemmas.{CircuitLaws, parts-make-design, fit-together}
use Rattle.device_design.proofs.DriverLemmas.{has-driver}
use Rattle.pin_store.specs.Store.{lines, circuit, shown, spec, driver, emulator, device, design}
use Rattle.pin_store.proofs.Plain.{keep}
use Rattle.pin_store.proofs.Typed.{spec-fits, driver-fits, emulator-fits}
use Rattle.pin_store.proofs.Hinting.{plain_right, script_by, hints-are, plain_host}
use Rattle.pin_store.proofs.Shut.{closed}

abbrev ls : List Line
ls = lines 1 shown

-- ---- the circuit

abbrev mask : List Bool
mask = keep_mask (cells_of ls) keep

abbrev widths : List ℕ
widths = state_widths (cells_of ls)

circuit-laws : CircuitLaws (circuit 1 shown) keep
circuit-laws = record {
  tick = λ state ins f g. tick-keeps ls state ins f g;
  factory = λ noise f. factory-keeps ls noise f;
  power = λ state noise f g. power-keeps ls keep state noise f g;
  kept = λ state noise f g. power-kept ls keep state noise f g;
  fitting = λ state f. fit-pick mask widths state f;
  spread = λ words f. fit-merge mask widths (zeros_or widths) words (zero-state ls) f;
  back = λ words f. pick-merge-fit mask widths (zeros_or widths) words (zero-state ls) f;
  alone = λ state noise f g. power-alone ls keep state noise f;
  roms = record {
    count = λ state f. rom-count ls ∙ sym (state-count ls state f);
    widths = refl;
    factory = λ noise. factory-agrees ls noise;
    tick = λ state ins f k. tick-agrees ls state ins k;
    power = λ state noise f g k. power-agrees ls keep state noise k;
  };
}

-- ---- the design

fits : fits_device (circuit 1 shown) (spec 1) (driver 1) (emulator 1) ≡ true
unfolding fits_device
fits = refl

lawful : IsDesign (design 1 shown)
lawful = record {
  wires = parts-make-design (circuit 1 shown) (spec 1) (driver 1) (emulator 1) (λ keep. circuit-laws) spec-fits emulator-fits fits;
  driver = is-driver ls (driver 1)
      (known ls (driver 1) driver-fits (fit-together (circuit 1 shown) (spec 1) (driver 1) (emulator 1) fits).driver
      (keeps-states ls (outputs-keep ls) (tick-keeps ls) (λ cells ins long known. tick-agrees ls cells ins known) (state-count ls)))
      (design 1 shown) (has-driver (circuit 1 shown) (spec 1) (driver 1) (emulator 1) refl fits);
}

-- ---- the script

abbrev plain : Script Left
plain = script_by ls plain_right

same-host : (h : HostSections Left) → plain.host ≡ Some h → plain_host plain_right.idle.value ≡ h
same-host h e = cc

formed : IsScript (design 1 shown) plain
formed = record {
  paced = refl;
  locs = tt;
  call_locs = λ h e o lt. subst (λ (x : HostSections Left). HasCallLocations (design 1 shown) o (x.calls o)) (same-host h e) tt;
}

shut : Closed (design 1 shown) plain
shut = subst (λ (s : Script Left). Closed (design 1 shown) s) (hints-are 1 ls [] plain_right) closed

pub agreed : Agree (device 1 shown)
unfolding design_of
agreed =
    let host = plain_host plain_right.idle.value in
    agree (design 1 shown) plain host refl lawful formed (closed-wires (design 1 shown) plain shut) (closed-host (design 1 shown) plain host refl shut)
