-- The driver of a device has the specification's operations.
use Rattle.std.proofs.Common.{◌≡◌, ℕ, suc, ◌<◌, List, [], ◌∷◌, true, refl, ap, sym, ◌∙◌, subst, Option, Some, None, length, slice_get}
use Rattle.knox_words.specs.Lists.{fit}
use Rattle.knox_theory.proofs.Basics.{and-both}
use Rattle.knox_circuit.specs.Circuit.{Circuit}
use Rattle.knox_circuit.specs.Cells.{cells_of, state_widths}
use Rattle.knox_circuit.specs.Rom.{rom_words, agree}
use Rattle.knox_lang.specs.declared.parts.OpHead.{OpHead}
use Rattle.knox_lang.specs.declared.parts.SpecParts.{SpecParts}
use Rattle.knox_lang.specs.declared.parts.DriverParts.{DriverParts}
use Rattle.knox_lang.specs.declared.parts.EmuParts.{EmuParts}
use Rattle.knox_lang.proofs.WidthLemmas.{and_first, and_second}
use Rattle.driver_machine.specs.Lawful.{HasOp, HasDriver}
use Rattle.emu_machine.specs.Fits.{same_head, same_heads, fits_device}
use Rattle.device_design.specs.Roms.{known_fit}
use Rattle.device_design.specs.Meaning.{head_args, device_of, design_of}
use Rattle.device_design.proofs.RomLemmas.{part-fits, fits-widths, fits-agree}
use Rattle.device_design.proofs.AskingLemmas.{heads-at}
use Rattle.device_design.proofs.DesignLemmas.{there-is-one, fit-together}

same-length : (as' bs : List OpHead) → same_heads as' bs ≡ true → length as' ≡ length bs
same-length [] [] h = refl
same-length [] (b ∷ bs) h = cc
same-length (a ∷ as') [] h = cc
same-length (a ∷ as') (b ∷ bs) h = ap (λ n. suc n) (same-length as' bs (and_second (same_head a b) (same_heads as' bs) h))

-- an operation of the specification is one of the driver, with the same widths
has-op : (s : SpecParts) (d : DriverParts) (k : ℕ) → same_heads d.ops s.ops ≡ true → k < length s.ops → HasOp d k (head_args (slice_get s.ops k))
has-op s d k same lt = by_head (slice_get d.ops k) refl
  where
    by_head : (o : Option OpHead) → slice_get d.ops k ≡ o → HasOp d k (head_args (slice_get s.ops k))
    by_head None at = absurd (there-is-one d.ops k (subst (λ n. k < n) (sym (same-length d.ops s.ops same)) lt) at)
    by_head (Some h) at =
        let r = heads-at d.ops s.ops k h same at in
        record { head = h; at = at; widths = sym r.args ∙ ap (λ o. head_args o) (sym r.at) }

pub has-driver : (c : Circuit) (s : SpecParts) (d : DriverParts) (e : EmuParts) → known_fit (rom_words c.lines) (state_widths (cells_of c.lines)) ≡ true → fits_device c s d e ≡ true → HasDriver c.lines d (design_of c s d e)
unfolding design_of device_of
has-driver c s d e known fits = record {
  ops = λ o lt. has-op s d o (fit-together c s d e fits).driven lt;
  cells = λ ws f.
      and-both (fit (state_widths (cells_of c.lines)) ws) (agree (rom_words c.lines) ws) (fits-widths (rom_words c.lines) (state_widths (cells_of c.lines)) ws known f) (fits-agree (rom_words c.lines) (state_widths (cells_of c.lines)) ws f);
  of_cells = λ ws f.
      part-fits (rom_words c.lines) (state_widths (cells_of c.lines)) ws known (and_first (fit (state_widths (cells_of c.lines)) ws) (agree (rom_words c.lines) ws) f) (and_second (fit (state_widths (cells_of c.lines)) ws) (agree (rom_words c.lines) ws) f);
  drive = λ o args cells. refl;
  start = λ o args cells. refl;
  move = λ x. refl;
  move_tests = λ x. refl;
  ended = λ x. refl;
  ticks_left = λ x. refl;
  reply = λ left. refl;
  fits_config = λ o x. refl;
}
