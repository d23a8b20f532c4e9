-- Devices and designs of the store's programs on any lines are the plain ones.
use Rattle.std.proofs.Common.{◌≡◌, ℕ, zero, suc, List, [], slice_get, refl}
use Rattle.knox_circuit.specs.Line.{Line}
use Rattle.device_design.specs.Meaning.{device_of, design_of, head_args}
use Rattle.pin_store.specs.Store.{spec, driver_with, emulator_with}
use Rattle.pin_store.proofs.Plain.{args_of, plain_device, plain_design}
use Rattle.pin_store.proofs.Meaning.{Powering, quiet, result-is, fields-are, tick-is, outs-are}
use Rattle.pin_store.proofs.Driving.{Waiting, drive-is}

args-are : (w o : ℕ) → head_args (slice_get (spec w).ops o) ≡ args_of w o
args-are w zero = refl
args-are w (suc zero) = refl
args-are w (suc (suc o)) = refl

module _ (w : ℕ) (ls : List Line) (x : Waiting) where
  pub device-is : (p : Powering) → device_of (record { lines = ls }) (spec w) (driver_with x.more w) (emulator_with p.noise p.power w) ≡ plain_device w ls x.waits p.words
  unfolding device_of
  device-is p i = record (plain_device w ls x.waits p.words) {
    args = λ o. args-are w o i;
    drive = λ o args cells. drive-is w ls x o args cells i;
    op = λ o args fields. (result-is w o args fields i, fields-are w o args fields i);
    emu_power = λ noise kept. (p.same w noise i, []);
    emu_outs = λ emu copy ins. outs-are w p emu ins i;
    emu_tick = λ emu copy ins. tick-is w p emu ins i;
  }

  pub design-is : design_of (record { lines = ls }) (spec w) (driver_with x.more w) (emulator_with quiet.noise quiet.power w) ≡ plain_design w ls x.waits x.more
  unfolding device_of design_of
  design-is i = record (plain_design w ls x.waits x.more) { device = device-is quiet i }
