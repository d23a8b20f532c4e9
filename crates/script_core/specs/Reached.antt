-- What each part of a run says of how far the whole run comes: either it comes to what is left of its course with the words that are left, or it ends.
-- The project's own; nobody has to believe it.
use Rattle.std.specs.Prelude.{◌≡◌, ℕ, ◌+◌, ◌&&◌, List, [], ◌∷◌, Option, Some, None, Bool, true}
use Rattle.knox_words.specs.Bits.{Bits}
use Rattle.knox_words.specs.Lists.{Words, fit}
use Rattle.knox_theory.specs.Design.{Design}
use Rattle.knox_theory.specs.Script.{State, Place, HostSections, Script}
use Rattle.knox_theory.specs.Course.{Course, Done, takes}
use Rattle.knox_theory.specs.WireSegments.{steps, course, enters, wire_course, cut_course, subsumes}
use Rattle.knox_theory.specs.HostSegments.{is_reply, factory_course, boot_host_course, rest_course, wait_course, call_course}
use Rattle.knox_theory.specs.Segments.{factory_bits, boot_host_bits, idle_bits, call_bits, wire_bits, cut_bits}
use Rattle.knox_circuit.specs.Cells.{cells_of, state_widths, noise_widths, keep_mask}
use Rattle.knox_circuit.specs.Circuit.{state_after_power}
use Rattle.knox_circuit.specs.Rom.{rom_words, agree, free_mask}
use Rattle.knox_words.specs.Lists.{pick, merge, zeros_or}
use Rattle.device_design.specs.Roms.{known_words}
use Rattle.knox_lang.specs.declared.expr.Expr.{Expr}
use Rattle.knox_lang.specs.Operation.{op_after, op_result}
use Rattle.knox_lang.specs.WellFormed.{word_widths}
use Rattle.driver_machine.specs.Drive.{drive}
use Rattle.emu_machine.specs.declared.device.Device.{Device}
use Rattle.device_design.specs.Meaning.{persistent_roms, design_of}
use Rattle.driver_machine.specs.Left as driver
use Rattle.script_core.specs.declared.parts.Item.{Item}
use Rattle.script_core.specs.declared.parts.Kind.{Kind}
use Rattle.script_core.specs.declared.parts.Kind.TheVariants.{Factory, BootHost, Rest, Wait, Call, Wire}
use Rattle.script_core.specs.declared.parts.Root.{Root}
use Rattle.script_core.specs.declared.parts.Root.TheVariants.{OfKind, OfCut}
use Rattle.script_core.specs.declared.parts.ScriptParts.{ScriptParts}
use Rattle.script_core.specs.declared.run.Left.{Left}
use Rattle.script_core.specs.declared.run.Left.TheVariants.{On, Ended}
use Rattle.script_core.specs.Hints.{seen, holds, refines, items_of, script_of, host_of, hint_of_kind, wire_items, first_cut, behind_cut}
use Rattle.script_core.specs.Runs.{reach, reach_of}

-- the design of a device, and the script for it
abbrev pub design : Device → Design driver.Left
design v = design_of v.circuit v.spec v.driver v.emulator

abbrev pub script : Device → ScriptParts → Script driver.Left
script v p = script_of v.circuit v.spec v.driver p

-- its sections for the host
abbrev pub host : Device → ScriptParts → HostSections driver.Left
host v p = host_of v.spec.funs p

-- whether a subsume of a hint holds at a place
abbrev pub passes : Device → ScriptParts → ℕ → Place → Bool
passes v p = subsumes (design v) (script v p)

-- a state at which no words were taken
abbrev pub here : State → Place
here st = record { state = st; taken = [] }

-- the course of some items from a place on
abbrev pub course_from : Device → ScriptParts → List Item → Place → Course
course_from v p items q = course (design v) (script v p) (passes v p) (items_of v.spec.funs items) q

-- so many ticks before some items
abbrev pub ticks_from : Device → ScriptParts → (hint count : ℕ) → List Item → State → Course
ticks_from v p h n items st = steps (design v) (script v p) h n (here st) (course_from v p items)

-- the segment of `wire`, and that of a cut by its condition and the items behind it
abbrev pub wire_run : Device → ScriptParts → Course
wire_run v p = wire_course (design v) (script v p) (passes v p)

abbrev pub cut_run : Device → ScriptParts → Expr → List Item → Course
cut_run v p e items =
    cut_course (design v) (script v p) (passes v p) (λ st. holds v.spec.funs e (seen st.fields st.cells st.emu)) (items_of v.spec.funs items)

-- the course of the segment that begins with a section of a kind
abbrev pub kind_course : Device → ScriptParts → Kind → Course
kind_course v p Factory = factory_course (design v) (script v p) (host v p)
kind_course v p BootHost = boot_host_course (design v) (script v p) (host v p)
kind_course v p Rest = rest_course (design v) (script v p) (host v p)
kind_course v p Wait = wait_course (design v) (host v p)
kind_course v p (Call o) = call_course (design v) (host v p) o
kind_course v p Wire = wire_run v p

-- the course of the segment behind a cut with this condition
abbrev pub behind_course : Device → ScriptParts → Option Expr → Course
behind_course v p None = Done
behind_course v p (Some e) = cut_run v p e (behind_cut (wire_items p))

-- the course of the segment that begins with a root
abbrev pub root_course : Device → ScriptParts → Option Root → Course
root_course v p None = Done
root_course v p (Some (OfKind k)) = kind_course v p k
root_course v p (Some OfCut) = behind_course v p (first_cut (wire_items p))

-- the bits that its widest run takes
abbrev pub kind_bits : Device → ScriptParts → Kind → ℕ
kind_bits v p Factory = factory_bits (design v)
kind_bits v p BootHost = boot_host_bits (design v)
kind_bits v p Rest = idle_bits (design v)
kind_bits v p Wait = idle_bits (design v)
kind_bits v p (Call o) = call_bits (design v) o ((host v p).calls o)
kind_bits v p Wire = wire_bits (design v) (items_of v.spec.funs (wire_items p))

abbrev pub root_bits : Device → ScriptParts → Option Root → ℕ
root_bits v p None = 0
root_bits v p (Some (OfKind k)) = kind_bits v p k
root_bits v p (Some OfCut) = cut_bits (design v) (items_of v.spec.funs (behind_cut (wire_items p)))

-- the hint of its section or cut
abbrev pub root_hint : ScriptParts → Option Root → ℕ
root_hint p None = 0
root_hint p (Some (OfKind k)) = hint_of_kind k p.sections
root_hint p (Some OfCut) = hint_of_kind Wire p.sections + 1

-- taking words of these widths: those that were taken fit, and the run goes on with them
abbrev pub Takes : List ℕ → Words → Words → Left → Type 0
Takes ws cs taken (On left) = (fit ws taken ≡ true) × ((rest : Words → Course) → reach (takes ws rest) cs ≡ reach (rest taken) left.now)
Takes ws cs taken (Ended p) = (rest : Words → Course) → reach (takes ws rest) cs ≡ reach_of p

-- the run comes in this state, whose device words fit, to what follows of it; or it ends
abbrev pub Leads : Device → Course → Words → State → (State → Course) → Left → Type 0
Leads v t cs st next (On left) = (fit (state_widths (cells_of v.circuit.lines)) st.cells ≡ true) × (reach t cs ≡ reach (next st) left.now)
Leads v t cs st next (Ended p) = reach t cs ≡ reach_of p

-- taking words of these widths but for those that are known: with these in their places all words fit, and the run goes on with all
abbrev pub TakesPart : List (Option Bits) → List ℕ → Words → Words → Left → Type 0
TakesPart known ws cs whole (On left) =
    (fit ws whole ≡ true) × (agree known whole ≡ true) × ((rest : Words → Course) → reach (takes (pick (free_mask known) ws) (λ taken. rest (merge (free_mask known) (known_words known) taken))) cs ≡ reach (rest whole) left.now)
TakesPart known ws cs whole (Ended p) = (rest : Words → Course) → reach (takes (pick (free_mask known) ws) (λ taken. rest (merge (free_mask known) (known_words known) taken))) cs ≡ reach_of p

-- what is known of the first place
abbrev pub first_known : List (Option Bits) → Option Bits
first_known [] = None
first_known (o ∷ os) = o

-- three lists of words are taken, one after another; of the second some are known
abbrev pub three : (ws : List ℕ) → List (Option Bits) → (xs ys : List ℕ) → (Words → Words → Words → Course) → Course
three ws known xs ys rest = takes ws (λ a. takes (pick (free_mask known) xs) (λ b. takes ys (λ c. rest a (merge (free_mask known) (known_words known) b) c)))

abbrev pub TakesThree : (ws : List ℕ) → List (Option Bits) → (xs ys : List ℕ) → Words → (first second third : Words) → Left → Type 0
TakesThree ws known xs ys words first second third (On left) =
    (fit ws first ≡ true) × (fit xs second ≡ true) × (agree known second ≡ true) × (fit ys third ≡ true)
    × ((rest : Words → Words → Words → Course) → reach (three ws known xs ys rest) words ≡ reach (rest first second third) left.now)
TakesThree ws known xs ys words first second third (Ended p) =
    (rest : Words → Words → Words → Course) → reach (three ws known xs ys rest) words ≡ reach_of p

-- the root of `wire` and `boot-host`: fields, persistent and noise words are taken, and `refine` holds of the first two
abbrev pub powered : Device → ScriptParts → (Words → Words → Words → Course) → Course
powered v p rest =
    three (word_widths v.spec.init) (persistent_roms v.circuit.lines v.driver.keep) (pick (keep_mask (cells_of v.circuit.lines) v.driver.keep) (state_widths (cells_of v.circuit.lines))) (noise_widths v.circuit.lines v.driver.keep) (λ fields kept noise.
    enters (refines v.spec.funs (cells_of v.circuit.lines) v.driver.keep p.refine fields kept) (rest fields kept noise))

-- the run goes on with such words, and the device words are those after the power-cycle
abbrev pub Powers : Device → ScriptParts → Words → (fields kept noise cells : Words) → Left → Type 0
Powers v p words fields kept noise cells (On left) =
    (fit (state_widths (cells_of v.circuit.lines)) cells ≡ true)
    × (cells ≡ state_after_power v.circuit.lines v.driver.keep (merge (keep_mask (cells_of v.circuit.lines) v.driver.keep) (zeros_or (state_widths (cells_of v.circuit.lines))) kept) noise)
    × ((rest : Words → Words → Words → Course) → reach (powered v p rest) words ≡ reach (rest fields kept noise) left.now)
Powers v p words fields kept noise cells (Ended e) = (rest : Words → Words → Words → Course) → reach (powered v p rest) words ≡ reach_of e

-- the root of `rest`, `wait` and `call`: fields, device words and arguments are taken, and `idle` holds of the first two
abbrev pub idling : Device → ScriptParts → List ℕ → (Words → Words → Words → Course) → Course
idling v p ws rest =
    three (word_widths v.spec.init) (rom_words v.circuit.lines) (state_widths (cells_of v.circuit.lines)) ws (λ fields cells args.
    enters (holds v.spec.funs p.idle (seen fields cells [])) (rest fields cells args))

-- the run goes on with such words
abbrev pub Idles : Device → ScriptParts → List ℕ → Words → (fields cells args : Words) → Left → Type 0
Idles v p ws words fields cells args (On left) =
    (fit (state_widths (cells_of v.circuit.lines)) cells ≡ true)
    × (agree (rom_words v.circuit.lines) cells ≡ true)
    × (fit ws args ≡ true)
    × ((rest : Words → Words → Words → Course) → reach (idling v p ws rest) words ≡ reach (rest fields cells args) left.now)
Idles v p ws words fields cells args (Ended e) = (rest : Words → Words → Words → Course) → reach (idling v p ws rest) words ≡ reach_of e

-- the driver's reply is the operation's result, and `idle` holds of the fields and the device words after both
abbrev pub concludes : Device → ScriptParts → ℕ → (fields cells args : Words) → Bool
concludes v p o fields cells args =
    let r = drive v.circuit.lines v.driver o args cells in
    is_reply r.0 (op_result v.spec o fields args) && holds v.spec.funs p.idle (seen (op_after v.spec o fields args) r.1 [])
