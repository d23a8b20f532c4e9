-- The runs of the host's sections: what their courses come to, from what was taken and what holds then.
use Rattle.std.proofs.Common.{◌≡◌, ◌∙◌, ℕ, ◌<◌, ◌&&◌, List, [], ◌++◌, length, slice_get, Bool, true, refl, sym, ap, if◌then◌else◌}
use Rattle.knox_words.specs.Bits.{Bits}
use Rattle.knox_words.specs.Lists.{Words, fit}
use Rattle.knox_theory.specs.Device as theory
use Rattle.knox_theory.specs.Design.{finish}
use Rattle.knox_theory.specs.Script.{CallPlace, Close}
use Rattle.knox_theory.specs.Course.{Course, Check, Done, takes}
use Rattle.knox_theory.specs.HostSegments.{is_reply, is_concluded, call_items}
use Rattle.knox_theory.specs.WireSegments.{enters}
use Rattle.knox_theory.specs.Lawful.{IsDesign}
use Rattle.knox_circuit.specs.Cells.{cells_of, state_widths, noise_widths, keep_mask}
use Rattle.knox_circuit.specs.Circuit.{state_after_tick, state_after_power, factory_state}
use Rattle.knox_circuit.specs.Rom.{rom_words, agree}
use Rattle.knox_words.specs.Lists.{pick, merge, zeros_or}
use Rattle.knox_lang.specs.Operation.{op_after, op_result}
use Rattle.knox_lang.specs.WellFormed.{word_widths}
use Rattle.driver_machine.specs.Drive.{drive}
use Rattle.driver_machine.specs.Left as driver
use Rattle.driver_machine.specs.declared.reply.Reply.{Reply}
use Rattle.driver_machine.specs.Configs.{meant, said}
use Rattle.emu_machine.specs.declared.device.Device.{Device}
use Rattle.device_design.specs.Meaning.{head_args, design_of, device_of}
use Rattle.device_design.specs.Roms.{known_fit}
use Rattle.device_design.proofs.RomLemmas.{part-fits}
use Rattle.script_core.specs.declared.parts.Kind.TheVariants.{Factory, BootHost, Rest, Wait, Call}
use Rattle.script_core.specs.declared.parts.ScriptParts.{ScriptParts}
use Rattle.script_core.specs.Hints.{seen, holds, refines, hint_of_kind, script_of}
use Rattle.script_core.specs.Reached.{design, host, kind_course, powered, idling, concludes}
use Rattle.script_core.specs.Runs.{Reach, ToEnd, ToVacuous, ToFailure, reach}
use Rattle.script_core.proofs.Reaching.{Took, DoesNotTake, TookThree, DoesNotTakeThree}

-- the driver's reply, as the code and as the theory have it
meant-said : (r : theory.Reply) → meant (said r) ≡ r
meant-said (theory.Replied w) = refl
meant-said theory.OutOfTurns = refl

-- a run at its last check
pub at-check : (r : Reach) (b ok : Bool) (h hint : ℕ) (left : Words) → r ≡ (if b then ToEnd else ToFailure h) → b ≡ ok → h ≡ hint → r ≡ reach (Check ok hint Done) left
at-check r b ok h hint left e same number = e ∙ (λ i. if same i then ToEnd else ToFailure (number i))

module _ (v : Device) (p : ScriptParts) where
  -- THE ROOT OF `rest`, `wait` AND `call`

  pub idles-short : (ws : List ℕ) (cs : Words) (r : Reach) → DoesNotTakeThree (word_widths v.spec.init) (rom_words v.circuit.lines) (state_widths (cells_of v.circuit.lines)) ws cs r → (rest : Words → Words → Words → Course) → reach (idling v p ws rest) cs ≡ r
  idles-short ws cs r t rest = t (λ a b c. enters (holds v.spec.funs p.idle (seen a b [])) (rest a b c))

  pub idles-then : (ws : List ℕ) (cs fields cells args left : Words) → TookThree (word_widths v.spec.init) (rom_words v.circuit.lines) (state_widths (cells_of v.circuit.lines)) ws cs fields cells args left →
      (b : Bool) → holds v.spec.funs p.idle (seen fields cells []) ≡ b → (rest : Words → Words → Words → Course) → reach (idling v p ws rest) cs ≡ (if b then reach (rest fields cells args) left else ToVacuous)
  idles-then ws cs fields cells args left t b idle rest =
      t.4 (λ a b c. enters (holds v.spec.funs p.idle (seen a b [])) (rest a b c)) ∙ ap (λ b. if b then reach (rest fields cells args) left else ToVacuous) idle

  pub idles-on : (ws : List ℕ) (cs fields cells args left fields' cells' args' : Words) → TookThree (word_widths v.spec.init) (rom_words v.circuit.lines) (state_widths (cells_of v.circuit.lines)) ws cs fields cells args left →
      holds v.spec.funs p.idle (seen fields cells []) ≡ true → fields' ≡ fields → cells' ≡ cells → args' ≡ args → (rest : Words → Words → Words → Course) → reach (idling v p ws rest) cs ≡ reach (rest fields' cells' args') left
  idles-on ws cs fields cells args left fields' cells' args' t idle f c a rest =
      idles-then ws cs fields cells args left t true idle rest ∙ (λ i. reach (rest (sym f i) (sym c i) (sym a i)) left)

  -- a course that begins idly: where its root ends it, and where it goes on
  pub idle-short : (t : Course) (ws ws' : List ℕ) (rest : Words → Words → Words → Course) (cs : Words) (r : Reach) → t ≡ idling v p ws' rest → ws ≡ ws' →
      ((rest : Words → Words → Words → Course) → reach (idling v p ws rest) cs ≡ r) → r ≡ reach t cs
  idle-short t ws ws' rest cs r is w ended = sym (ap (λ t. reach t cs) is ∙ ((λ i. reach (idling v p (sym w i) rest) cs) ∙ ended rest))

  pub idle-on : (t : Course) (ws ws' : List ℕ) (rest : Words → Words → Words → Course) (cs fields cells args left : Words) (r : Reach) → t ≡ idling v p ws' rest → ws ≡ ws' →
      ((rest : Words → Words → Words → Course) → reach (idling v p ws rest) cs ≡ reach (rest fields cells args) left) → r ≡ reach (rest fields cells args) left → r ≡ reach t cs
  idle-on t ws ws' rest cs fields cells args left r is w on end = end ∙ sym (ap (λ t. reach t cs) is ∙ ((λ i. reach (idling v p (sym w i) rest) cs) ∙ on rest))

  -- THE COURSES, from their roots on

  -- `refine` of fields and device words
  abbrev pub refined_with : Words → Words → Bool
  refined_with fields cells = refines v.spec.funs (cells_of v.circuit.lines) v.driver.keep p.refine fields (pick (keep_mask (cells_of v.circuit.lines) v.driver.keep) cells)

  abbrev pub factory_tail : Words → Course
  factory_tail noise =
      Check (refined_with v.spec.init (factory_state v.circuit.lines noise)) (hint_of_kind Factory p.sections) Done

  pub factory-is : kind_course v p Factory ≡ takes (noise_widths v.circuit.lines []) factory_tail
  unfolding design_of device_of script_of
  factory-is = refl

  pub factory-short : (ws : List ℕ) (cs : Words) (r : Reach) → ws ≡ noise_widths v.circuit.lines [] → DoesNotTake ws cs r → r ≡ reach (kind_course v p Factory) cs
  factory-short ws cs r w not = sym (ap (λ t. reach t cs) factory-is ∙ ((λ i. reach (takes (sym w i) factory_tail) cs) ∙ not factory_tail))

  pub factory-on : (ws : List ℕ) (cs noise left fields cells : Words) (r : Reach) (b : Bool) (h : ℕ) → ws ≡ noise_widths v.circuit.lines [] → Took ws cs noise left →
      fields ≡ v.spec.init → cells ≡ factory_state v.circuit.lines noise → r ≡ (if b then ToEnd else ToFailure h) → b ≡ refined_with fields cells → h ≡ hint_of_kind Factory p.sections → r ≡ reach (kind_course v p Factory) cs
  factory-on ws cs noise left fields cells r b h w took f c e refined number =
      at-check r b _ h _ left e (refined ∙ (λ i. refined_with (f i) (c i))) number
      ∙ sym (ap (λ t. reach t cs) factory-is ∙ ((λ i. reach (takes (sym w i) factory_tail) cs) ∙ took.1 factory_tail))

  abbrev pub boot_tail : Words → Words → Words → Course
  boot_tail fields kept noise =
      Check (holds v.spec.funs p.idle (seen fields (state_after_power v.circuit.lines v.driver.keep (merge (keep_mask (cells_of v.circuit.lines) v.driver.keep) (zeros_or (state_widths (cells_of v.circuit.lines))) kept) noise) [])) (hint_of_kind BootHost p.sections) Done

  pub boot-is : kind_course v p BootHost ≡ powered v p boot_tail
  unfolding design_of device_of script_of
  boot-is = refl

  pub boot-short : (cs : Words) (r : Reach) → ((rest : Words → Words → Words → Course) → reach (powered v p rest) cs ≡ r) → r ≡ reach (kind_course v p BootHost) cs
  boot-short cs r ended = sym (ap (λ t. reach t cs) boot-is ∙ ended boot_tail)

  pub boot-on : (cs fields kept noise cells left : Words) (r : Reach) (b : Bool) (h : ℕ) → ((rest : Words → Words → Words → Course) → reach (powered v p rest) cs ≡ reach (rest fields kept noise) left) →
      cells ≡ state_after_power v.circuit.lines v.driver.keep (merge (keep_mask (cells_of v.circuit.lines) v.driver.keep) (zeros_or (state_widths (cells_of v.circuit.lines))) kept) noise →
      r ≡ (if b then ToEnd else ToFailure h) → b ≡ holds v.spec.funs p.idle (seen fields cells []) → h ≡ hint_of_kind BootHost p.sections → r ≡ reach (kind_course v p BootHost) cs
  boot-on cs fields kept noise cells left r b h on c e idle number =
      at-check r b _ h _ left e (idle ∙ ap (λ (z : Words). holds v.spec.funs p.idle (seen fields z [])) c) number ∙ sym (ap (λ t. reach t cs) boot-is ∙ on boot_tail)

  abbrev pub rest_tail : Words → Words → Words → Course
  rest_tail fields cells args =
      Check (refined_with fields cells) (hint_of_kind Rest p.sections) Done

  pub rest-is : kind_course v p Rest ≡ idling v p [] rest_tail
  unfolding design_of device_of script_of
  rest-is = refl

  abbrev pub wait_tail : Words → Words → Words → Course
  wait_tail fields cells args = Check (holds v.spec.funs p.idle (seen fields (state_after_tick v.circuit.lines cells v.driver.idle) [])) (hint_of_kind Wait p.sections) Done

  pub wait-is : kind_course v p Wait ≡ idling v p [] wait_tail
  unfolding design_of device_of script_of
  wait-is = refl

  abbrev call_place : ℕ → Words → Words → Words → CallPlace driver.Left
  call_place o fields cells args = record {
    fields = fields;
    args = args;
    kept = [];
    config = (design v).start o args cells;
    taken = fields ++ (cells ++ (args ++ []));
  }

  abbrev pub call_tail : ℕ → Words → Words → Words → Course
  call_tail o fields cells args = call_items (design v) (host v p) o Close (call_place o fields cells args)

  pub call-is : (o : ℕ) → kind_course v p (Call o) ≡ idling v p (head_args (slice_get v.spec.ops o)) (call_tail o)
  unfolding design_of device_of script_of
  call-is o = refl

  -- the moves of the driver up to its end are the whole body
  call-concludes : IsDesign (design v) → known_fit (rom_words v.circuit.lines) (state_widths (cells_of v.circuit.lines)) ≡ true → (o : ℕ) (fields cells args : Words) → o < length v.spec.ops → fit (head_args (slice_get v.spec.ops o)) args ≡ true → fit (state_widths (cells_of v.circuit.lines)) cells ≡ true → agree (rom_words v.circuit.lines) cells ≡ true →
      concludes v p o fields cells args ≡ is_concluded (design v) (host v p) o (call_place o fields cells args) (finish (design v) (call_place o fields cells args).config)
  unfolding design_of device_of script_of
  call-concludes lawful roms o fields cells args few fit_args fit_cells known i =
      let r = lawful.driver.drive o args cells few fit_args (part-fits (rom_words v.circuit.lines) (state_widths (cells_of v.circuit.lines)) cells roms fit_cells known) i in
      is_reply r.0 (op_result v.spec o fields args) && holds v.spec.funs p.idle (seen (op_after v.spec o fields args) r.1 [])

  pub call-ends : IsDesign (design v) → known_fit (rom_words v.circuit.lines) (state_widths (cells_of v.circuit.lines)) ≡ true → (o : ℕ) (fields cells args left : Words) → o < length v.spec.ops → fit (head_args (slice_get v.spec.ops o)) args ≡ true → fit (state_widths (cells_of v.circuit.lines)) cells ≡ true → agree (rom_words v.circuit.lines) cells ≡ true →
      (r : Reach) (b : Bool) (h : ℕ) → r ≡ (if b then ToEnd else ToFailure h) → b ≡ concludes v p o fields cells args → h ≡ hint_of_kind (Call o) p.sections → r ≡ reach (call_tail o fields cells args) left
  call-ends lawful roms o fields cells args left few fit_args fit_cells known r b h e same number =
      at-check r b _ h _ left e (same ∙ call-concludes lawful roms o fields cells args few fit_args fit_cells known) number

  -- what was concluded, from the driver's reply and the operation's result
  pub concluded : (o : ℕ) (fields cells args seen_args fields' cells' : Words) (answer : Reply) (given : Bits) (same idle : Bool) → seen_args ≡ args →
      answer ≡ said (drive v.circuit.lines v.driver o seen_args cells).0 → cells' ≡ (drive v.circuit.lines v.driver o seen_args cells).1 → given ≡ op_result v.spec o fields args → fields' ≡ op_after v.spec o fields args →
      same ≡ is_reply (meant answer) given → idle ≡ holds v.spec.funs p.idle (seen fields' cells' []) → (same && idle) ≡ concludes v p o fields cells args
  concluded o fields cells args seen_args fields' cells' answer given same idle a r c g f s i =
      let reply = ap meant r ∙ (meant-said _ ∙ ap (λ (z : Words). (drive v.circuit.lines v.driver o z cells).0) a) in
      let after = c ∙ ap (λ (z : Words). (drive v.circuit.lines v.driver o z cells).1) a in
      (λ k. s k && i k) ∙ (λ k. is_reply (reply k) (g k) && holds v.spec.funs p.idle (seen (f k) (after k) []))
