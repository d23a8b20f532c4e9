-- Scripts of hints for the PIN store, part by part: that of its text, and others with other conditions; and runs of their segments.
use Rattle.std.specs.Prelude.{◌≡◌, ℕ, suc, List, [], ◌∷◌, slice_get, Option, Some, None}
use Rattle.knox_words.specs.Bits.{bits}
use Rattle.knox_words.specs.Lists.{Words}
use Rattle.knox_words.specs.declared.op.Op2.TheVariants.{And}
use Rattle.knox_theory.specs.declared.event.Event.{Event}
use Rattle.knox_theory.specs.Design.{Design}
use Rattle.knox_theory.specs.Course.{End, run}
use Rattle.knox_theory.specs.Script.{Script}
use Rattle.knox_theory.specs.Segments.{Segment, segments}
use Rattle.knox_theory.specs.Traces.{trace_of}
use Rattle.knox_circuit.specs.Line.{Line}
use Rattle.knox_lang.specs.declared.expr.Expr.{Expr}
use Rattle.knox_lang.specs.declared.expr.Expr.TheVariants as expr
use Rattle.knox_lang.specs.declared.expr.Space.TheVariants as space
use Rattle.driver_machine.specs.Left.{Left}
use Rattle.emu_machine.specs.declared.device.Device.{Device as Machine}
use Rattle.script_core.specs.declared.parts.HintNo.{HintNo}
use Rattle.script_core.specs.declared.parts.Act.{Act}
use Rattle.script_core.specs.declared.parts.Act.TheVariants as act
use Rattle.script_core.specs.declared.parts.Item.{Item}
use Rattle.script_core.specs.declared.parts.Kind.{Kind}
use Rattle.script_core.specs.declared.parts.Kind.TheVariants.{Factory, BootHost, Rest, Wait, Call, Wire}
use Rattle.script_core.specs.declared.parts.Section.{Section}
use Rattle.script_core.specs.declared.parts.ScriptParts.{ScriptParts}
use Rattle.script_core.specs.Hints.{script_of}
use Rattle.script_core.specs.Runs.{course_at}
use Rattle.pin_store.specs.Store.{name, equal, circuit, shown, spec, driver, impatient_driver, emulator, design, impatient_design}

-- ---- conditions

-- the secret is the specification's field
abbrev pub refine : Expr
refine = equal (name space.Spec 0) (name space.Device 0)

-- and circuit and emulator show the same: the condition of the cut
abbrev pub mimics : Expr
mimics = expr.Bin And refine (equal (name space.Device 1) (name space.Emu 0))

-- nothing is shown, and something is: conditions that no tick keeps, and the second of which doesn't hold at power-on
abbrev pub shows : ℕ → Expr
shows n = equal (name space.Device 1) (expr.Lit (bits 1 n))

abbrev pub mimics_in_silence : Expr
mimics_in_silence = expr.Bin And mimics (shows 0)

-- the secret is the field, and this is shown
abbrev pub refine_showing : ℕ → Expr
refine_showing n = expr.Bin And refine (shows n)

-- the secret is the field, and it is this number
abbrev pub refine_of : ℕ → Expr
refine_of n = expr.Bin And refine (equal (name space.Device 0) (expr.Lit (bits 4 n)))

-- ---- the script

abbrev pub hint_number : ℕ → HintNo
hint_number n = record { 0 = n }

abbrev pub item : (hint : ℕ) → Act → Item
item h a = record { hint = hint_number h; act = a }

abbrev pub section : (hint : ℕ) → Kind → List Item → Section
section h k is = record { hint = hint_number h; kind = k; items = is }

abbrev pub wire_section : (cut : Expr) → Section
wire_section c = section 1 Wire (item 2 (act.Cut c) ∷ item 3 (act.Step 1) ∷ item 4 (act.Subsume (hint_number 2)) ∷ [])

-- the conditions of a script: its `refine`, its `idle` and that of its cut
pub record Conditions : Type 0 where
  pub refine : Expr
  pub idle : Expr
  pub cut : Expr

-- sections for the host of these kinds, numbered from a hint on
abbrev pub host_sections : (hint : ℕ) → List Kind → List Section
host_sections h [] = []
host_sections h (k ∷ ks) = section h k [] ∷ host_sections (suc h) ks

-- the script with `wire` and these kinds behind it, and that with each of them
abbrev pub script_of_kinds : Conditions → List Kind → ScriptParts
script_of_kinds x ks = record { refine = x.refine; idle = x.idle; sections = wire_section x.cut ∷ host_sections 5 ks }

abbrev pub script_with : Conditions → ScriptParts
script_with x = script_of_kinds x (Factory ∷ BootHost ∷ Rest ∷ Wait ∷ Call 0 ∷ Call 1 ∷ [])

-- those of its text, and the same with one of them replaced
abbrev pub right : Conditions
right = record { refine = refine; idle = refine; cut = mimics }

abbrev pub cut_at : Expr → Conditions
cut_at c = record right { cut = c }

abbrev pub idle_where : Expr → Conditions
idle_where c = record right { idle = c }

abbrev pub refined_where : Expr → Conditions
refined_where c = record right { refine = c }

abbrev pub script : ScriptParts
script = script_with right

-- the same with these kinds of sections behind `wire`
abbrev pub script_of_host : List Kind → ScriptParts
script_of_host ks = script_of_kinds right ks

-- ---- what they mean

abbrev pub hints_with : Conditions → (width : ℕ) → (output : List Line) → Script Left
hints_with x w output = script_of (circuit w output) (spec w) (driver w) (script_with x)

abbrev pub hints : (width : ℕ) → (output : List Line) → Script Left
hints w output = hints_with right w output

-- the segments in order of their hint numbers
abbrev pub parts_with : Conditions → (width : ℕ) → (output : List Line) → List Segment
parts_with x w output = segments (design w output) (hints_with x w output)

abbrev pub parts : (width : ℕ) → (output : List Line) → List Segment
parts w output = parts_with right w output

-- with the impatient driver
abbrev pub impatient_hints : (width : ℕ) → Script Left
impatient_hints w = script_of (circuit w shown) (spec w) (impatient_driver w) script

abbrev pub impatient_parts : (width : ℕ) → List Segment
impatient_parts w = segments (impatient_design w) (impatient_hints w)

-- ---- runs of segments, by their number

abbrev pub segment_run : (segment : ℕ) → List Segment → Words → End
segment_run g gs cs = run (course_at gs g) cs

abbrev pub wire_run : List Segment → Words → End
wire_run = segment_run 0

abbrev pub cut_run : List Segment → Words → End
cut_run = segment_run 1

abbrev pub factory_run : List Segment → Words → End
factory_run = segment_run 2

abbrev pub boot_host_run : List Segment → Words → End
boot_host_run = segment_run 3

abbrev pub rest_run : List Segment → Words → End
rest_run = segment_run 4

abbrev pub wait_run : List Segment → Words → End
wait_run = segment_run 5

-- of the calls of `set` and of `check`
abbrev pub set_run : List Segment → Words → End
set_run = segment_run 6

abbrev pub check_run : List Segment → Words → End
check_run = segment_run 7

-- choices of the segments of `wire` and of `boot-host`: the field and the secret of 4 bits
abbrev pub powered : (field secret : ℕ) → Words
powered f s = bits 4 f ∷ bits 4 s ∷ []

-- of `rest` and of `wait`: the field, the secret and what the circuit shows
abbrev pub rested : (field secret shown : ℕ) → Words
rested f s o = bits 4 f ∷ bits 4 s ∷ bits 1 o ∷ []

-- of a call: the same and the argument
abbrev pub called : (field secret shown number : ℕ) → Words
called f s o n = bits 4 f ∷ bits 4 s ∷ bits 1 o ∷ bits 4 n ∷ []

-- of the cut: the field, the secret, what circuit and emulator show, the command and the data
abbrev pub chosen : (field secret shown emu command number : ℕ) → Words
chosen f s o e c n = bits 4 f ∷ bits 4 s ∷ bits 1 o ∷ bits 1 e ∷ bits 2 c ∷ bits 4 n ∷ []

-- the events of the trace of choices of a segment
abbrev pub trace_at : (segment : ℕ) → Design Left → List Segment → Words → List Event
trace_at n d gs cs = events_or (slice_get gs n)
  where
    events_or : Option Segment → List Event
    events_or None = []
    events_or (Some g) = (trace_of d [] [] g cs).events

-- the device of the program is made of the store's parts
pub record IsStore (dev : Machine) (width : ℕ) (output : List Line) : Type 0 where
  pub circuit_is : dev.circuit ≡ circuit width output
  pub spec_is : dev.spec ≡ spec width
  pub driver_is : dev.driver ≡ driver width
  pub emulator_is : dev.emulator ≡ emulator width
