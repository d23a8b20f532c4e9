-- The parts of a run: the roots of the segments, a tick, and the checks at a segment's end.
use Rattle.std.proofs.Common.{◌≡◌, ◌∙◌, ℕ, suc, ◌+◌, ◌*◌, ◌-◌, ◌<◌, ◌≤◌, ◌==◌, List, [], ◌∷◌, ◌++◌, length, arith, Option, Some, None, Bool, true, false, refl, sym, ap, if◌then◌else◌}
use Rattle.knox_words.specs.Bits.{Bits}
use Rattle.knox_words.specs.Lists.{Words}
use Rattle.knox_theory.specs.Design.{Design}
use Rattle.knox_theory.specs.Script.{State, Place, Script}
use Rattle.knox_theory.specs.Course.{Course, takes}
use Rattle.knox_theory.specs.WireSegments.{Target, ToCut, noted, ticked, same_outs, is_refined, steps, course, enters, find, passed, never, wire_places, wire_course}
use Rattle.knox_circuit.specs.Cells.{cells_of, state_widths, noise_widths, keep_mask}
use Rattle.knox_circuit.specs.Ports.{input_widths}
use Rattle.knox_circuit.specs.Circuit.{state_after_power}
use Rattle.knox_circuit.specs.Rom.{rom_words, free_mask}
use Rattle.knox_words.specs.Lists.{pick, merge, zeros_or}
use Rattle.device_design.specs.Roms.{known_words}
use Rattle.knox_lang.specs.declared.expr.Expr.{Expr}
use Rattle.knox_lang.specs.declared.parts.Fun.{Fun}
use Rattle.knox_lang.specs.WellFormed.{word_widths}
use Rattle.emu_machine.specs.declared.device.Device.{Device}
use Rattle.emu_machine.specs.Emulator.{emulator_after_power}
use Rattle.device_design.specs.Meaning.{persistent_roms, design_of, device_of}
use Rattle.script_core.specs.declared.parts.Act.{Act}
use Rattle.script_core.specs.declared.parts.Act.TheVariants as act
use Rattle.script_core.specs.declared.parts.Item.{Item}
use Rattle.script_core.specs.declared.parts.ScriptParts.{ScriptParts}
use Rattle.script_core.specs.Hints.{seen, holds, refines, item_of, items_of, wire_items, named_or, cut_named, script_of}
use Rattle.script_core.specs.Reached.{design, script, passes, here, course_from, ticks_from, wire_run, cut_run, three, powered}
use Rattle.script_core.specs.Runs.{Reach, ToEnd, ToVacuous, ToFailure, reach}
use Rattle.script_core.proofs.Reaching.{Took, DoesNotTake, TookThree, DoesNotTakeThree, three-same, IsBlind, tick_with, steps-blind}

-- THE CHECK OF A SUBSUME looks at the state alone: at the condition of the cut that it names

abbrev pub named_holds : List Fun → Option Expr → State → Bool
named_holds funs None st = false
named_holds funs (Some c) st = holds funs c (seen st.fields st.cells st.emu)

cut-passed : (l : ℕ) (funs : List Fun) (b : Bool) (c : Expr) (t : Target) (o : Option Expr) (p : Place) → passed l t p ≡ named_holds funs o p.state →
    passed l (if b then ToCut (λ st. holds funs c (seen st.fields st.cells st.emu)) else t) p ≡ named_holds funs (if b then Some c else o) p.state
cut-passed l funs true c t o p h = refl
cut-passed l funs false c t o p h = h

passed-named : {P : Type 0} (d : Design P) (s : Script P) (funs : List Fun) (l : ℕ) (items : List Item) (n : ℕ) (g : Course) (p : Place) →
    passed l (find d s l (items_of funs items) n g) p ≡ named_holds funs (cut_named l items) p.state
passed-named d s funs l [] n g p = refl
passed-named d s funs l (i ∷ is) n g p = by_act i.hint.0 i.act (λ m t. passed-named d s funs l is m t p) where
  by_act : (h : ℕ) (a : Act) → ((m : ℕ) (t : Course) → passed l (find d s l (items_of funs is) m t) p ≡ named_holds funs (cut_named l is) p.state) →
      passed l (find d s l (item_of funs h a (items_of funs is)) n g) p ≡ named_holds funs (named_or a (l == h) (cut_named l is)) p.state
  by_act h (act.Step k) later = later (n + k * length d.device.ins) g
  by_act h (act.Cut c) later = cut-passed l funs (l == h) c _ (cut_named l is) p (later _ _)
  by_act h (act.Subsume m) later = refl

pub passes-named : (v : Device) (p : ScriptParts) (l : ℕ) (q : Place) → passes v p l q ≡ named_holds v.spec.funs (cut_named l (wire_items p)) q.state
unfolding script_of
passes-named v p l q = passed-named (design v) (script v p) v.spec.funs l (wire_items p) (wire_places (design v)) (wire_course (design v) (script v p) never) q

passes-blind : (v : Device) (p : ScriptParts) (l : ℕ) (q r : Place) → q.state ≡ r.state → passes v p l q ≡ passes v p l r
passes-blind v p l q r e =
    passes-named v p l q ∙ (ap (named_holds v.spec.funs (cut_named l (wire_items p))) e ∙ sym (passes-named v p l r))

-- so the course of items does too

pub course-blind : (v : Device) (p : ScriptParts) (items : List Item) → IsBlind (course_from v p items)
course-blind v p [] = record { same = λ q r cs e j. if passes-blind v p 0 q r e j then ToEnd else ToFailure 0 }
course-blind v p (i ∷ is) = by_act i.hint.0 i.act (course-blind v p is) where
  by_act : (h : ℕ) (a : Act) → IsBlind (course_from v p is) → IsBlind (λ q. course (design v) (script v p) (passes v p) (item_of v.spec.funs h a (items_of v.spec.funs is)) q)
  by_act h (act.Step k) later = steps-blind (design v) (script v p) h k (course_from v p is) later
  by_act h (act.Cut c) later = record { same = λ q r cs e j. if holds v.spec.funs c (seen (e j).fields (e j).cells (e j).emu) then ToEnd else ToFailure h }
  by_act h (act.Subsume l) later = record { same = λ q r cs e j. if passes-blind v p l.0 q r e j then ToEnd else ToFailure h }

-- ONE TICK

module _ (v : Device) (p : ScriptParts) (h n : ℕ) (items : List Item) (st : State) where
  abbrev from_here : Words → Course
  from_here i = tick_with (design v) (script v p) h n (course_from v p items) (here st) i

  abbrev after : Words → State
  after i = ticked (design v) st i

  abbrev goes_on : Words → Words → Reach
  goes_on i left = reach (steps (design v) (script v p) h n (noted (after i) [] i) (course_from v p items)) left

  pub tick-short : (ws : List ℕ) (cs : Words) (r : Reach) → ws ≡ input_widths v.circuit.lines → DoesNotTake ws cs r → reach (ticks_from v p h (suc n) items st) cs ≡ r
  unfolding design_of device_of
  tick-short ws cs r w taken = (λ i. reach (takes (sym w i) from_here) cs) ∙ taken from_here

  taken-then : (ws : List ℕ) (cs ins left : Words) → ws ≡ input_widths v.circuit.lines → Took ws cs ins left → reach (ticks_from v p h (suc n) items st) cs ≡ reach (from_here ins) left
  unfolding design_of device_of
  taken-then ws cs ins left w taken = (λ i. reach (takes (sym w i) from_here) cs) ∙ taken.1 from_here

  pub tick-differs : (ws : List ℕ) (cs ins left : Words) → ws ≡ input_widths v.circuit.lines → Took ws cs ins left → same_outs (design v) st ins ≡ false → reach (ticks_from v p h (suc n) items st) cs ≡ ToFailure h
  tick-differs ws cs ins left w taken differ =
      taken-then ws cs ins left w taken
      ∙ ap (λ b. if b then (if is_refined (design v) (script v p) (after ins) then goes_on ins left else ToFailure h) else ToFailure h) differ

  checked : (ws : List ℕ) (cs ins left : Words) → ws ≡ input_widths v.circuit.lines → Took ws cs ins left → same_outs (design v) st ins ≡ true → (next : State) → next ≡ after ins → (b : Bool) → b ≡ is_refined (design v) (script v p) next →
      reach (ticks_from v p h (suc n) items st) cs ≡ (if b then goes_on ins left else ToFailure h)
  checked ws cs ins left w taken equal next e b refined =
      taken-then ws cs ins left w taken
      ∙ (ap (λ b. if b then (if is_refined (design v) (script v p) (after ins) then goes_on ins left else ToFailure h) else ToFailure h) equal
      ∙ ap (λ b. if b then goes_on ins left else ToFailure h) (sym (refined ∙ ap (is_refined (design v) (script v p)) e)))

  pub tick-unrefined : (ws : List ℕ) (cs ins left : Words) → ws ≡ input_widths v.circuit.lines → Took ws cs ins left → same_outs (design v) st ins ≡ true → (next : State) → next ≡ after ins → false ≡ is_refined (design v) (script v p) next →
      reach (ticks_from v p h (suc n) items st) cs ≡ ToFailure h
  tick-unrefined ws cs ins left w taken equal next e refined = checked ws cs ins left w taken equal next e false refined

  pub tick-on : (ws : List ℕ) (cs ins left : Words) → ws ≡ input_widths v.circuit.lines → Took ws cs ins left → same_outs (design v) st ins ≡ true → (next : State) → next ≡ after ins → true ≡ is_refined (design v) (script v p) next →
      reach (ticks_from v p h (suc n) items st) cs ≡ reach (ticks_from v p h n items next) left
  tick-on ws cs ins left w taken equal next e refined =
      checked ws cs ins left w taken equal next e true refined
      ∙ (steps-blind (design v) (script v p) h n (course_from v p items) (course-blind v p items)).same (noted (after ins) [] ins) (here next) left (sym e)

-- one more tick is left, or none
pub ticks-more : (v : Device) (p : ScriptParts) (h n : ℕ) (items : List Item) (st : State) (cs : Words) → 0 < n → reach (ticks_from v p h n items st) cs ≡ reach (ticks_from v p h (suc (n - 1)) items st) cs
ticks-more v p h n items st cs more = let e : n ≡ suc (n - 1) = omega arith in ap (λ (k : ℕ). reach (ticks_from v p h k items st) cs) e

pub ticks-none : (v : Device) (p : ScriptParts) (h n : ℕ) (items : List Item) (st : State) (cs : Words) → n ≤ 0 → reach (ticks_from v p h n items st) cs ≡ reach (course_from v p items (here st)) cs
ticks-none v p h n items st cs none = let e : n ≡ 0 = omega arith in ap (λ (k : ℕ). reach (ticks_from v p h k items st) cs) e

-- THE FIRST OF SOME ITEMS

pub step-first : (v : Device) (p : ScriptParts) (i : Item) (is : List Item) (st : State) (cs : Words) (n : ℕ) → i.act ≡ act.Step n → reach (course_from v p (i ∷ is) (here st)) cs ≡ reach (ticks_from v p i.hint.0 n is st) cs
step-first v p i is st cs n e = ap (λ (a : Act). reach (course (design v) (script v p) (passes v p) (item_of v.spec.funs i.hint.0 a (items_of v.spec.funs is)) (here st)) cs) e

-- THE ROOT OF `wire` AND OF `boot-host`

module _ (v : Device) (p : ScriptParts) where
  abbrev widths_of_fields : List ℕ
  widths_of_fields = word_widths v.spec.init

  abbrev widths_of_kept : List ℕ
  widths_of_kept = pick (keep_mask (cells_of v.circuit.lines) v.driver.keep) (state_widths (cells_of v.circuit.lines))

  abbrev known_of_kept : List (Option Bits)
  known_of_kept = persistent_roms v.circuit.lines v.driver.keep

  abbrev widths_of_noise : List ℕ
  widths_of_noise = noise_widths v.circuit.lines v.driver.keep

  abbrev refined_in : Words → Words → Bool
  refined_in fields kept = refines v.spec.funs (cells_of v.circuit.lines) v.driver.keep p.refine fields kept

  pub powers-short : (cs : Words) (r : Reach) → DoesNotTakeThree widths_of_fields known_of_kept widths_of_kept widths_of_noise cs r → (rest : Words → Words → Words → Course) → reach (powered v p rest) cs ≡ r
  powers-short cs r t rest = t (λ a b c. enters (refined_in a b) (rest a b c))

  pub powers-then : (cs fields kept noise left : Words) → TookThree widths_of_fields known_of_kept widths_of_kept widths_of_noise cs fields kept noise left → (b : Bool) → refined_in fields kept ≡ b →
      (rest : Words → Words → Words → Course) → reach (powered v p rest) cs ≡ (if b then reach (rest fields kept noise) left else ToVacuous)
  powers-then cs fields kept noise left t b refined rest =
      t.4 (λ a b c. enters (refined_in a b) (rest a b c)) ∙ ap (λ b. if b then reach (rest fields kept noise) left else ToVacuous) refined

  pub powers-on : (cs fields kept noise left fields' kept' noise' : Words) → TookThree widths_of_fields known_of_kept widths_of_kept widths_of_noise cs fields kept noise left → refined_in fields kept ≡ true →
      fields' ≡ fields → kept' ≡ kept → noise' ≡ noise → (rest : Words → Words → Words → Course) → reach (powered v p rest) cs ≡ reach (rest fields' kept' noise') left
  powers-on cs fields kept noise left fields' kept' noise' t refined f k n rest =
      powers-then cs fields kept noise left t true refined rest ∙ (λ i. reach (rest (sym f i) (sym k i) (sym n i)) left)

  -- `wire` goes on to its items
  abbrev started_in : Words → Words → Words → State
  started_in fields kept noise = record {
    fields = fields;
    cells = state_after_power v.circuit.lines v.driver.keep (merge (keep_mask (cells_of v.circuit.lines) v.driver.keep) (zeros_or (state_widths (cells_of v.circuit.lines))) kept) noise;
    emu = emulator_after_power v.emulator noise;
    copy = [];
  }

  abbrev wire_from : Words → Words → Words → Course
  wire_from fields kept noise = course_from v p (wire_items p) (here (started_in fields kept noise))

  -- where the words that were taken are noted, at which the items don't look
  abbrev wire_noted : Words → Words → Words → Course
  wire_noted fields taken noise =
      enters (refined_in fields (merge (free_mask known_of_kept) (known_words known_of_kept) taken))
      (course_from v p (wire_items p) (record { state = started_in fields (merge (free_mask known_of_kept) (known_words known_of_kept) taken) noise; taken = fields ++ (taken ++ (noise ++ [])) }))

  abbrev wire_plain : Words → Words → Words → Course
  wire_plain fields taken noise = enters (refined_in fields (merge (free_mask known_of_kept) (known_words known_of_kept) taken)) (wire_from fields (merge (free_mask known_of_kept) (known_words known_of_kept) taken) noise)

  wire-notes : wire_run v p ≡ takes widths_of_fields (λ a. takes (pick (free_mask known_of_kept) widths_of_kept) (λ b. takes widths_of_noise (λ c. wire_noted a b c)))
  unfolding design_of device_of script_of
  wire-notes = refl

  wire-powers : (cs : Words) → reach (wire_run v p) cs ≡ reach (powered v p wire_from) cs
  wire-powers cs =
      ap (λ t. reach t cs) wire-notes
      ∙ three-same widths_of_fields (pick (free_mask known_of_kept) widths_of_kept) widths_of_noise wire_noted wire_plain cs (λ a b c left.
      ap (λ z. if refined_in a (merge (free_mask known_of_kept) (known_words known_of_kept) b) then z else ToVacuous)
      ((course-blind v p (wire_items p)).same (record { state = started_in a (merge (free_mask known_of_kept) (known_words known_of_kept) b) c; taken = a ++ (b ++ (c ++ [])) }) (here (started_in a (merge (free_mask known_of_kept) (known_words known_of_kept) b) c)) left refl))

  pub attach-short : (cs : Words) (r : Reach) → ((rest : Words → Words → Words → Course) → reach (powered v p rest) cs ≡ r) → reach (wire_run v p) cs ≡ r
  attach-short cs r ended = wire-powers cs ∙ ended wire_from

  pub attach-on : (cs fields kept noise cells emu left : Words) → ((rest : Words → Words → Words → Course) → reach (powered v p rest) cs ≡ reach (rest fields kept noise) left) →
      cells ≡ state_after_power v.circuit.lines v.driver.keep (merge (keep_mask (cells_of v.circuit.lines) v.driver.keep) (zeros_or (state_widths (cells_of v.circuit.lines))) kept) noise → emu ≡ emulator_after_power v.emulator noise →
      reach (wire_run v p) cs ≡ reach (course_from v p (wire_items p) (here (record { fields = fields; cells = cells; emu = emu; copy = [] }))) left
  attach-on cs fields kept noise cells emu left on c e =
      wire-powers cs ∙ (on wire_from
      ∙ (λ i. reach (course_from v p (wire_items p) (here (record { fields = fields; cells = sym c i; emu = sym e i; copy = [] }))) left))

-- THE ROOT OF A CUT

module _ (v : Device) (p : ScriptParts) (e : Expr) (items : List Item) where
  abbrev cut_state : Words → Words → Words → State
  cut_state fields cells emu = record { fields = fields; cells = cells; emu = emu; copy = [] }

  abbrev known_of_cells : List (Option Bits)
  known_of_cells = rom_words v.circuit.lines

  abbrev widths_of_cells : List ℕ
  widths_of_cells = state_widths (cells_of v.circuit.lines)

  abbrev cut_from : Words → Words → Words → Course
  cut_from fields cells emu = enters (holds v.spec.funs e (seen fields cells emu)) (course_from v p items (here (cut_state fields cells emu)))

  abbrev cut_noted : Words → Words → Words → Course
  cut_noted fields taken emu =
      enters (holds v.spec.funs e (seen fields (merge (free_mask known_of_cells) (known_words known_of_cells) taken) emu))
      (course_from v p items (record { state = cut_state fields (merge (free_mask known_of_cells) (known_words known_of_cells) taken) emu; taken = fields ++ (taken ++ (emu ++ [])) }))

  cut-notes : cut_run v p e items ≡ takes (word_widths v.spec.init) (λ a. takes (pick (free_mask known_of_cells) widths_of_cells) (λ b. takes (word_widths v.emulator.init) (λ c. cut_noted a b c)))
  unfolding design_of device_of
  cut-notes = refl

  cut-takes : (cs : Words) → reach (cut_run v p e items) cs ≡ reach (three (word_widths v.spec.init) known_of_cells widths_of_cells (word_widths v.emulator.init) cut_from) cs
  cut-takes cs =
      ap (λ t. reach t cs) cut-notes
      ∙ three-same (word_widths v.spec.init) (pick (free_mask known_of_cells) widths_of_cells) (word_widths v.emulator.init) cut_noted (λ a b c. cut_from a (merge (free_mask known_of_cells) (known_words known_of_cells) b) c) cs (λ a b c left.
      ap (λ z. if holds v.spec.funs e (seen a (merge (free_mask known_of_cells) (known_words known_of_cells) b) c) then z else ToVacuous)
      ((course-blind v p items).same (record { state = cut_state a (merge (free_mask known_of_cells) (known_words known_of_cells) b) c; taken = a ++ (b ++ (c ++ [])) }) (here (cut_state a (merge (free_mask known_of_cells) (known_words known_of_cells) b) c)) left refl))

  pub enter-short : (cs : Words) (r : Reach) → DoesNotTakeThree (word_widths v.spec.init) known_of_cells widths_of_cells (word_widths v.emulator.init) cs r → reach (cut_run v p e items) cs ≡ r
  enter-short cs r t = cut-takes cs ∙ t cut_from

  -- what comes where all words are taken
  pub enter-on : (cs fields cells emu left : Words) → TookThree (word_widths v.spec.init) known_of_cells widths_of_cells (word_widths v.emulator.init) cs fields cells emu left →
      (b : Bool) → b ≡ holds v.spec.funs e (seen fields cells emu) → (st : State) → st ≡ cut_state fields cells emu → reach (cut_run v p e items) cs ≡ (if b then reach (course_from v p items (here st)) left else ToVacuous)
  enter-on cs fields cells emu left t b is st s =
      cut-takes cs ∙ (t.4 cut_from ∙ (λ i. if sym is i then reach (course_from v p items (here (sym s i))) left else ToVacuous))
