-- A device's design is lawful, from the laws of its circuit and of its programs.
use Rattle.std.proofs.Common.{◌≡◌, ℕ, zero, suc, ◌<◌, ◌==◌, ◌&&◌, List, [], ◌∷◌, Bool, true, false, not, refl, ap, sym, ◌∙◌, subst, Option, Some, None, length, slice_get, eqb-true, arith}
use Rattle.std.specs.Cmp.Lexicographic.{pointwise, same_text}
use Rattle.knox_words.specs.Bits.{Bits}
use Rattle.knox_words.specs.Lists.{Words, fit, fits, zeros_or, pick, merge}
use Rattle.knox_theory.specs.Design.{Fits}
use Rattle.knox_theory.specs.Lawful.{IsCircuit, IsSpecification, IsEmulator, IsWireDesign}
use Rattle.knox_circuit.specs.Circuit.{Circuit, state_after_tick, factory_state, state_after_power}
use Rattle.knox_circuit.specs.Cells.{noise_cells, cells_of, state_widths, noise_widths, keep_mask}
use Rattle.knox_circuit.specs.Ports.{input_widths, output_widths, outputs_of}
use Rattle.knox_circuit.specs.Rom.{rom_words, agree, free_mask}
use Rattle.knox_lang.specs.declared.parts.OpHead.{OpHead}
use Rattle.knox_lang.specs.declared.parts.SpecParts.{SpecParts}
use Rattle.knox_lang.specs.declared.parts.DriverParts.{DriverParts}
use Rattle.knox_lang.specs.declared.parts.EmuParts.{EmuParts}
use Rattle.knox_lang.specs.Fitting.{fits_driver}
use Rattle.knox_lang.specs.Operation.{op_after, op_result}
use Rattle.knox_lang.specs.WellFormed.{word_widths, field_widths, emulator_fits, spec_fits, IsTyped}
use Rattle.knox_lang.proofs.WidthLemmas.{and_first, and_second}
use Rattle.knox_lang.proofs.OperationLemmas.{spec-is-typed}
use Rattle.emu_machine.specs.Fits.{same_heads, indices_fit, fits_specification, fits_emulator, fits_device}
use Rattle.device_design.specs.Roms.{known_fit, rom_part}
use Rattle.device_design.specs.Meaning.{head_args, head_result, persistent_roms, device_of, design_of}
use Rattle.device_design.proofs.RomLemmas.{filled-agree, part-fits, fits-widths, fits-agree, known-pick, agree-pick, over, over-fit, kept-stay}
use Rattle.emu_machine.specs.Fields.{name_cells}
use Rattle.device_design.proofs.AskingLemmas.{tick-asks-fit, spec-init}
use Rattle.device_design.proofs.PowerLemmas.{power-fits, names-widths}

-- what is known of a circuit's ROM words: they have their widths, and each state agrees with them
pub record RomLaws (c : Circuit) (keep : List Bool) : Type 0 where
  pub count : (state : Words) → fit (state_widths (cells_of c.lines)) state ≡ true → length (rom_words c.lines) ≡ length state
  pub widths : known_fit (rom_words c.lines) (state_widths (cells_of c.lines)) ≡ true
  pub factory : (noise : Words) → agree (rom_words c.lines) (factory_state c.lines noise) ≡ true
  pub tick : (state inputs : Words) → fit (state_widths (cells_of c.lines)) state ≡ true → agree (rom_words c.lines) state ≡ true → agree (rom_words c.lines) (state_after_tick c.lines state inputs) ≡ true
  pub power : (state noise : Words) → fit (state_widths (cells_of c.lines)) state ≡ true → fit (noise_widths c.lines keep) noise ≡ true → agree (rom_words c.lines) state ≡ true → agree (rom_words c.lines) (state_after_power c.lines keep state noise) ≡ true

-- what is known of a circuit
pub record CircuitLaws (c : Circuit) (keep : List Bool) : Type 0 where
  pub tick : (state inputs : Words) → fit (state_widths (cells_of c.lines)) state ≡ true → fit (input_widths c.lines) inputs ≡ true → fit (state_widths (cells_of c.lines)) (state_after_tick c.lines state inputs) ≡ true
  pub factory : (noise : Words) → fit (noise_widths c.lines []) noise ≡ true → fit (state_widths (cells_of c.lines)) (factory_state c.lines noise) ≡ true
  pub power : (state noise : Words) → fit (state_widths (cells_of c.lines)) state ≡ true → fit (noise_widths c.lines keep) noise ≡ true → fit (state_widths (cells_of c.lines)) (state_after_power c.lines keep state noise) ≡ true
  pub kept : (state noise : Words) → fit (state_widths (cells_of c.lines)) state ≡ true → fit (noise_widths c.lines keep) noise ≡ true → pick (keep_mask (cells_of c.lines) keep) (state_after_power c.lines keep state noise) ≡ pick (keep_mask (cells_of c.lines) keep) state
  pub fitting : (state : Words) → fit (state_widths (cells_of c.lines)) state ≡ true → fit (pick (keep_mask (cells_of c.lines) keep) (state_widths (cells_of c.lines))) (pick (keep_mask (cells_of c.lines) keep) state) ≡ true
  pub spread : (words : Words) → fit (pick (keep_mask (cells_of c.lines) keep) (state_widths (cells_of c.lines))) words ≡ true → fit (state_widths (cells_of c.lines)) (merge (keep_mask (cells_of c.lines) keep) (zeros_or (state_widths (cells_of c.lines))) words) ≡ true
  pub back : (words : Words) → fit (pick (keep_mask (cells_of c.lines) keep) (state_widths (cells_of c.lines))) words ≡ true → pick (keep_mask (cells_of c.lines) keep) (merge (keep_mask (cells_of c.lines) keep) (zeros_or (state_widths (cells_of c.lines))) words) ≡ words
  pub alone : (state noise : Words) → fit (state_widths (cells_of c.lines)) state ≡ true → fit (noise_widths c.lines keep) noise ≡ true →
      state_after_power c.lines keep (merge (keep_mask (cells_of c.lines) keep) (zeros_or (state_widths (cells_of c.lines))) (pick (keep_mask (cells_of c.lines) keep) state)) noise ≡ state_after_power c.lines keep state noise
  pub roms : RomLaws c keep

module _ (c : Circuit) (keep : List Bool) (laws : CircuitLaws c keep) where
  abbrev cell_widths : List ℕ
  cell_widths = state_widths (cells_of c.lines)

  abbrev known : List (Option Bits)
  known = rom_words c.lines

  abbrev kept_widths : List ℕ
  kept_widths = pick (keep_mask (cells_of c.lines) keep) (state_widths (cells_of c.lines))

  abbrev kept_known : List (Option Bits)
  kept_known = persistent_roms c.lines keep

  kept-fit : known_fit kept_known kept_widths ≡ true
  kept-fit = known-pick (keep_mask (cells_of c.lines) keep) known (state_widths (cells_of c.lines)) laws.roms.widths

  pub factory-fits : (noise : Words) → fit (noise_widths c.lines []) noise ≡ true → Fits (rom_part known cell_widths) (factory_state c.lines noise)
  factory-fits noise f = part-fits known cell_widths (factory_state c.lines noise) laws.roms.widths (laws.factory noise f) (laws.roms.factory noise)

  pub kept-fits : (cells : Words) → Fits (rom_part known cell_widths) cells → Fits (rom_part kept_known kept_widths) (pick (keep_mask (cells_of c.lines) keep) cells)
  kept-fits cells f =
      let widths = fits-widths known cell_widths cells laws.roms.widths f in
      let agrees = fits-agree known cell_widths cells f in
      part-fits kept_known kept_widths (pick (keep_mask (cells_of c.lines) keep) cells) kept-fit (laws.fitting cells widths)
      (agree-pick (keep_mask (cells_of c.lines) keep) known cells agrees)

  -- a power-cycle looks at the persistent words alone, so that it can be seen as one of words that agree with the ROM words
  pub power-fits-part : (kept noise : Words) → Fits (rom_part kept_known kept_widths) kept → fit (noise_widths c.lines keep) noise ≡ true →
      Fits (rom_part known cell_widths) (state_after_power c.lines keep (merge (keep_mask (cells_of c.lines) keep) (zeros_or (state_widths (cells_of c.lines))) kept) noise)
  power-fits-part kept noise f g =
      let widths = fits-widths kept_known kept_widths kept kept-fit f in
      let agrees = fits-agree kept_known kept_widths kept f in
      let spread = merge (keep_mask (cells_of c.lines) keep) (zeros_or (state_widths (cells_of c.lines))) kept in
      let fits_spread = laws.spread kept widths in
      let count = laws.roms.count spread fits_spread in
      let state = over known spread in
      let fits_state = over-fit known cell_widths spread laws.roms.widths fits_spread in
      let stays = kept-stay (keep_mask (cells_of c.lines) keep) known spread kept count (laws.back kept widths) agrees in
      let same : state_after_power c.lines keep spread noise ≡ state_after_power c.lines keep state noise =
      sym (ap (λ ws. state_after_power c.lines keep (merge (keep_mask (cells_of c.lines) keep) (zeros_or (state_widths (cells_of c.lines))) ws) noise) stays) ∙ laws.alone state noise fits_state g in
      part-fits known cell_widths (state_after_power c.lines keep spread noise) laws.roms.widths (laws.power spread noise fits_spread g)
      (subst (λ ws. agree known ws ≡ true) (sym same) (laws.roms.power state noise fits_state g (filled-agree known (pick (free_mask known) spread))))

  pub power-stays : (kept noise : Words) → Fits (rom_part kept_known kept_widths) kept → fit (noise_widths c.lines keep) noise ≡ true →
      pick (keep_mask (cells_of c.lines) keep) (state_after_power c.lines keep (merge (keep_mask (cells_of c.lines) keep) (zeros_or (state_widths (cells_of c.lines))) kept) noise) ≡ kept
  power-stays kept noise f g =
      let widths = fits-widths kept_known kept_widths kept kept-fit f in
      laws.kept (merge (keep_mask (cells_of c.lines) keep) (zeros_or (state_widths (cells_of c.lines))) kept) noise (laws.spread kept widths) g ∙ laws.back kept widths

  pub tick-fits : (cells ins : Words) → Fits (rom_part known cell_widths) cells → fit (input_widths c.lines) ins ≡ true → Fits (rom_part known cell_widths) (state_after_tick c.lines cells ins)
  tick-fits cells ins f g =
      let widths = fits-widths known cell_widths cells laws.roms.widths f in
      let agrees = fits-agree known cell_widths cells f in
      part-fits known cell_widths (state_after_tick c.lines cells ins) laws.roms.widths (laws.tick cells ins widths g) (laws.roms.tick cells ins widths agrees)

pub is-circuit : (c : Circuit) (s : SpecParts) (d : DriverParts) (e : EmuParts) → CircuitLaws c d.keep → fit (input_widths c.lines) d.idle ≡ true → IsCircuit (design_of c s d e)
unfolding design_of device_of
is-circuit c s d e laws idle = record {
  idle = idle;
  factory = factory-fits c d.keep laws;
  persistent_of = kept-fits c d.keep laws;
  power = power-fits-part c d.keep laws;
  persistent_power = power-stays c d.keep laws;
  tick = tick-fits c d.keep laws;
}

-- the specification

pub there-is-one : (hs : List OpHead) (k : ℕ) → k < length hs → slice_get hs k ≡ None → ⊥
there-is-one [] k lt e = omega arith
there-is-one (h ∷ hs) zero lt e = cc
there-is-one (h ∷ hs) (suc k) lt e = there-is-one hs k (omega arith) e

pub record Operated (s : SpecParts) (k : ℕ) (args fields : Words) : Type 0 where
  pub kept : fit (word_widths s.init) (op_after s k fields args) ≡ true
  pub given : fits (head_result (slice_get s.ops k)) (op_result s k fields args) ≡ true

operated : (s : SpecParts) (k : ℕ) (args fields : Words) → IsTyped s → k < length s.ops → fit (head_args (slice_get s.ops k)) args ≡ true → fit (word_widths s.init) fields ≡ true → Operated s k args fields
operated s k args fields typed lt f g = by_head (slice_get s.ops k) refl f
  where
    by_head : (o : Option OpHead) → slice_get s.ops k ≡ o → fit (head_args o) args ≡ true → Operated s k args fields
    by_head None at f = absurd (there-is-one s.ops k lt at)
    by_head (Some h) at f =
        let r = typed k h fields args at g f in
        record { kept = r.kept; given = subst (λ (o : Option OpHead). fits (head_result o) (op_result s k fields args) ≡ true) (sym at) r.given }

pub is-specification : (c : Circuit) (s : SpecParts) (d : DriverParts) (e : EmuParts) → spec_fits s ≡ true → IsSpecification (design_of c s d e)
unfolding design_of device_of
is-specification c s d e ok = record {
  initial = spec-init s ok;
  op = λ o args fields lt f g. (operated s o args fields (spec-is-typed s ok) lt f g).kept;
  result = λ o args fields lt f g. (operated s o args fields (spec-is-typed s ok) lt f g).given;
}

-- the emulator

no-words : (as' : Words) → fit [] as' ≡ true → [] ≡ as'
no-words [] h = refl
no-words (a ∷ as') h = cc

pub is-emulator : (c : Circuit) (s : SpecParts) (d : DriverParts) (e : EmuParts) → spec_fits s ≡ true → emulator_fits e ≡ true → e.copy ≡ false → same_heads e.ops s.ops ≡ true → input_widths c.lines ≡ e.ins →
    field_widths e.noise ≡ noise_widths c.lines d.keep → IsEmulator (design_of c s d e)
unfolding design_of device_of
is-emulator c s d e spec ok alone same ins noises = record {
  first_kept = refl;
  emu_power = λ noise kept f g. power-fits e noise ok alone (ap (λ ws. fit ws noise) noises ∙ f);
  copy_power = λ noise kept f g. record { taken = refl; whole = refl };
  kept_power = λ noise kept f g. no-words kept g;
  kept_of = λ emu f. refl;
  emu_tick = λ emu copy words f g h. tick-asks-fit c s d e emu words spec ok alone same f (subst (λ ws. fit ws words ≡ true) ins h);
}

-- what is known of parts that fit each other
pub record FitTogether (c : Circuit) (s : SpecParts) (d : DriverParts) (e : EmuParts) : Type 0 where
  pub driver : fits_driver (input_widths c.lines) (output_widths c.lines) (length (cells_of c.lines)) d ≡ true
  pub idle : fit (input_widths c.lines) d.idle ≡ true
  pub keep : length d.keep ≡ length (cells_of c.lines)
  pub driven : same_heads d.ops s.ops ≡ true
  pub same : same_heads e.ops s.ops ≡ true
  pub ins : input_widths c.lines ≡ e.ins
  pub alone : e.copy ≡ false
  pub noise : name_cells e.noise (noise_cells c.lines d.keep) ≡ true
  pub indices : indices_fit e.noise ≡ true

not-true : (b : Bool) → not b ≡ true → b ≡ false
not-true true h = cc
not-true false h = refl

pub fit-together : (c : Circuit) (s : SpecParts) (d : DriverParts) (e : EmuParts) → fits_device c s d e ≡ true → FitTogether c s d e
unfolding fits_device
fit-together c s d e h =
    let ins = input_widths c.lines in
    let outs = output_widths c.lines in
    let cells = cells_of c.lines in
    let both : fits_driver ins outs (length cells) d && fits_specification s d e ≡ true = and_first _ (fits_emulator c d.keep e) h in
    let driver : fits_driver ins outs (length cells) d ≡ true = and_first (fits_driver ins outs (length cells) d) (fits_specification s d e) both in
    let spec : fits_specification s d e ≡ true = and_second (fits_driver ins outs (length cells) d) (fits_specification s d e) both in
    let emulator : fits_emulator c d.keep e ≡ true = and_second _ (fits_emulator c d.keep e) h in
    let sized : _ && indices_fit e.noise ≡ true = and_first _ (name_cells e.cells cells) emulator in
    let named : _ && name_cells e.noise (noise_cells c.lines d.keep) ≡ true = and_first _ (indices_fit e.noise) sized in
    let shown : _ && not e.copy ≡ true = and_first _ (name_cells e.noise (noise_cells c.lines d.keep)) named in
    let heads : same_heads d.ops s.ops && same_heads e.ops s.ops ≡ true = and_first _ (length s.funs == 0) (and_first _ (length d.funs == 0) (and_first _ (length e.funs == 0) spec)) in
    let same_outs = pointwise (λ v w. v == w) outs d.outs in
    let wires : pointwise (λ v w. v == w) ins e.ins && pointwise (λ v w. v == w) outs e.outs ≡ true = and_first _ (length e.outputs == length (outputs_of c.lines)) (and_first _ (not e.copy) shown) in
    record {
      driver = driver;
      idle = and_first (fit ins d.idle) (same_outs && length d.keep == length cells) driver;
      keep = eqb-true (length d.keep) (length cells) (and_second same_outs (length d.keep == length cells) (and_second (fit ins d.idle) (same_outs && length d.keep == length cells) driver));
      driven = and_first (same_heads d.ops s.ops) (same_heads e.ops s.ops) heads;
      same = and_second (same_heads d.ops s.ops) (same_heads e.ops s.ops) heads;
      ins = same_text ins e.ins (sym (and_first (pointwise (λ v w. v == w) ins e.ins) (pointwise (λ v w. v == w) outs e.outs) wires));
      alone = not-true e.copy (and_second _ (not e.copy) shown);
      noise = and_second _ (name_cells e.noise (noise_cells c.lines d.keep)) named;
      indices = and_second _ (indices_fit e.noise) sized;
    }

pub parts-make-design : (c : Circuit) (s : SpecParts) (d : DriverParts) (e : EmuParts) → (length d.keep ≡ length (cells_of c.lines) → CircuitLaws c d.keep) →
    spec_fits s ≡ true → emulator_fits e ≡ true → fits_device c s d e ≡ true → IsWireDesign (design_of c s d e)
parts-make-design c s d e laws spec ok fits =
    let t = fit-together c s d e fits in
    record {
      circuit = is-circuit c s d e (laws t.keep) t.idle;
      specification = is-specification c s d e spec;
      emulator = is-emulator c s d e spec ok t.alone t.same t.ins (names-widths e.noise (noise_cells c.lines d.keep) t.noise t.indices);
    }
