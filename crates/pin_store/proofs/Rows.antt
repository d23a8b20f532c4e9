-- What is computed of the plain device holds of the store, and of its variants.
use Rattle.std.proofs.Common.{◌≡◌, ℕ, List, [], ap, ◌∙◌}
use Rattle.knox_words.specs.Lists.{Words}
use Rattle.knox_theory.specs.declared.event.Event.{Event}
use Rattle.knox_theory.specs.declared.event.Answer.{Answer}
use Rattle.knox_theory.specs.Device.{Device}
use Rattle.knox_theory.specs.Worlds.{real, ideal}
use Rattle.knox_circuit.specs.Line.{Line}
use Rattle.device_design.specs.Meaning.{device_of}
use Rattle.pin_store.specs.Store.{lines, shown, leaked, noisy_lines, spec, driver_with, emulator_with, device, impatient_device, noisy_device}
use Rattle.pin_store.proofs.Plain.{plain_device, silence}
use Rattle.pin_store.proofs.Meaning.{Powering, quiet, noisy}
use Rattle.pin_store.proofs.Driving.{Waiting, patient, impatient}
use Rattle.pin_store.proofs.Devices.{device-is}

module _ (w : ℕ) (events : List Event) (answers : List Answer) where
  module _ (ls : List Line) (x : Waiting) (p : Powering) where
    real-row : (noise : Words) → real (plain_device w ls x.waits p.words) noise events ≡ answers → real (device_of (record { lines = ls }) (spec w) (driver_with x.more w) (emulator_with p.noise p.power w)) noise events ≡ answers
    real-row noise e = ap (λ (d : Device). real d noise events) (device-is w ls x p) ∙ e

    ideal-row : ideal (plain_device w ls x.waits p.words) events ≡ answers → ideal (device_of (record { lines = ls }) (spec w) (driver_with x.more w) (emulator_with p.noise p.power w)) events ≡ answers
    ideal-row e = ap (λ (d : Device). ideal d events) (device-is w ls x p) ∙ e

  pub store-real : real (plain_device w (lines w shown) patient.waits silence) [] events ≡ answers → real (device w shown) [] events ≡ answers
  store-real e = real-row (lines w shown) patient quiet [] e

  pub store-ideal : ideal (plain_device w (lines w shown) patient.waits silence) events ≡ answers → ideal (device w shown) events ≡ answers
  store-ideal e = ideal-row (lines w shown) patient quiet e

  pub leak-real : real (plain_device w (lines w leaked) patient.waits silence) [] events ≡ answers → real (device w leaked) [] events ≡ answers
  leak-real e = real-row (lines w leaked) patient quiet [] e

  pub leak-ideal : ideal (plain_device w (lines w leaked) patient.waits silence) events ≡ answers → ideal (device w leaked) events ≡ answers
  leak-ideal e = ideal-row (lines w leaked) patient quiet e

  pub stuck-real : real (plain_device w (lines w shown) impatient.waits silence) [] events ≡ answers → real (impatient_device w) [] events ≡ answers
  stuck-real e = real-row (lines w shown) impatient quiet [] e

  pub stuck-ideal : ideal (plain_device w (lines w shown) impatient.waits silence) events ≡ answers → ideal (impatient_device w) events ≡ answers
  stuck-ideal e = ideal-row (lines w shown) impatient quiet e

  pub noisy-real : (noise : Words) → real (plain_device w (noisy_lines w) patient.waits noisy.words) noise events ≡ answers → real (noisy_device w) noise events ≡ answers
  noisy-real noise e = real-row (noisy_lines w) patient noisy noise e

  pub noisy-ideal : ideal (plain_device w (noisy_lines w) patient.waits noisy.words) events ≡ answers → ideal (noisy_device w) events ≡ answers
  noisy-ideal e = ideal-row (noisy_lines w) patient noisy e
