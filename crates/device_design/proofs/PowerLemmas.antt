-- An emulator's words fit after power-on, whatever the noise words are.
use Rattle.std.proofs.Common.{◌≡◌, ℕ, ◌==◌, ◌^◌, List, [], ◌∷◌, ◌++◌, Bool, true, false, refl, ap, sym, ◌∙◌, subst, Option, Some, None, length, replicate, eqb-true, if◌then◌else◌}
use Rattle.knox_words.specs.Lists.{Words, fit, are_widths}
use Rattle.knox_circuit.specs.declared.port.Cell.{Cell}
use Rattle.knox_circuit.specs.Cells.{size, state_widths}
use Rattle.knox_lang.specs.declared.expr.Space.TheVariants.{Own, Local, Output, Noise, Copy}
use Rattle.knox_lang.specs.declared.parts.Field.{Field}
use Rattle.knox_lang.specs.declared.parts.EmuParts.{EmuParts}
use Rattle.knox_lang.specs.Operation.{no_queries}
use Rattle.knox_lang.specs.Typing.{funs_fit, SpacesFit}
use Rattle.knox_lang.specs.WellFormed.{word_widths, local_widths, field_widths, word_count, index_fits, fields_fit, no_leave, statements_fit, power_widths, emulator_fits}
use Rattle.knox_lang.proofs.WidthLemmas.{and_first, and_second, funs-give}
use Rattle.knox_lang.proofs.StmtLemmas.{stmts-keep}
use Rattle.knox_lang.proofs.OperationLemmas.{no-answers, start-fit}
use Rattle.emu_machine.specs.Fields.{same_index, same_field, cell_field, name_cells}
use Rattle.emu_machine.specs.Emulator.{power_spaces, emulator_after_power}
use Rattle.emu_machine.specs.Fits.{indices_fit}
use Rattle.device_design.proofs.AskingLemmas.{init-fits}

-- the words that the body `power` sees at first
power-spaces-fit : (e : EmuParts) (noise : Words) → e.copy ≡ false → fit (word_widths e.init) e.init ≡ true → fit (field_widths e.noise) noise ≡ true → are_widths (local_widths e.power) ≡ true → SpacesFit (power_widths e) (power_spaces e noise)
power-spaces-fit e noise alone f n l Own = f
power-spaces-fit e noise alone f n l Local = start-fit e.power.locals l
power-spaces-fit e noise alone f n l Noise = n
power-spaces-fit e noise alone f n l Output = subst (λ (b : Bool). fit (if b then e.outs else []) [] ≡ true) (sym alone) refl
power-spaces-fit e noise alone f n l Copy = subst (λ (b : Bool). fit (if b then field_widths e.cells else []) [] ≡ true) (sym alone) refl
power-spaces-fit e noise alone f n l s = refl

pub power-fits : (e : EmuParts) (noise : Words) → emulator_fits e ≡ true → e.copy ≡ false → fit (field_widths e.noise) noise ≡ true → fit (word_widths e.init) (emulator_after_power e noise) ≡ true
power-fits e noise ok alone n =
    let ins = and_second (fields_fit e.fields e.init) _ ok in
    let outs = and_second (are_widths e.ins) _ ins in
    let funs = and_second (are_widths e.outs) _ outs in
    let rest = and_second (funs_fit e.funs (length e.funs)) _ funs in
    let power : statements_fit e.funs (power_widths e) no_leave e.power ≡ true = and_first (statements_fit e.funs (power_widths e) no_leave e.power) _ rest in
    let locals = and_first (are_widths (local_widths e.power)) _ power in
    let stmts = and_second (are_widths (local_widths e.power)) _ power in
    let give = funs-give e.funs (length e.funs) (and_first (funs_fit e.funs (length e.funs)) _ funs) in
    let init = init-fits e.fields e.init (and_first (fields_fit e.fields e.init) _ ok) in
    (stmts-keep (Unit {0}) no_queries e.funs (power_widths e) no_leave (λ (a : Unit {0}). Unit {0}) give no-answers e.power.stmts [] [] (power_spaces e noise, tt) refl stmts
    (record { spaces = power-spaces-fit e noise alone init n locals; asked = tt })).spaces Own

-- the widths of fields that name cells

-- a field whose index is a cell's has the cell's number of words
same-size : (i j : Option ℕ) → same_index i j ≡ true → index_fits i ≡ true → word_count i ≡ size j
same-size None None h n = refl
same-size None (Some j) h n = cc
same-size (Some i) None h n = cc
same-size (Some i) (Some j) h n = ap (λ (b : Bool). if b then 2 ^ i else 0) n ∙ ap (λ k. 2 ^ k) (eqb-true i j h)

named-words : (f : Field) (c : Cell) → same_field f (cell_field c) ≡ true → index_fits f.index ≡ true → replicate (word_count f.index) f.width ≡ replicate (size c.index) c.width
named-words f c h n =
    let three = and_first _ (f.first == c.first) h in
    let index : same_index f.index c.index ≡ true = and_second _ (same_index f.index c.index) three in
    let width : f.width == c.width ≡ true = and_second _ (f.width == c.width) (and_first _ (same_index f.index c.index) three) in
    ap (λ k. replicate k f.width) (same-size f.index c.index index n) ∙ ap (λ w. replicate (size c.index) w) (eqb-true f.width c.width width)

pub names-widths : (fs : List Field) (cs : List Cell) → name_cells fs cs ≡ true → indices_fit fs ≡ true → field_widths fs ≡ state_widths cs
names-widths [] [] h n = refl
names-widths [] (c ∷ cs) h n = cc
names-widths (f ∷ fs) [] h n = cc
names-widths (f ∷ fs) (c ∷ cs) h n =
    let own = named-words f c (and_first (same_field f (cell_field c)) _ h) (and_first (index_fits f.index) _ n) in
    let rest = names-widths fs cs (and_second (same_field f (cell_field c)) _ h) (and_second (index_fits f.index) _ n) in
    ap (λ ws. ws ++ field_widths fs) own ∙ ap (λ ws. replicate (size c.index) c.width ++ ws) rest
