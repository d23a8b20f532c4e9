-- Scripts for the toy device.
use Rattle.std.specs.Prelude.{Option, Some, None, ℕ, zero, suc, ◌&&◌, List, [], ◌∷◌, map, Bool, true}
use Rattle.knox_words.specs.Bits.{Bits}
use Rattle.knox_words.specs.Lists.{Words, same_word}
use Rattle.knox_theory.specs.Design.{Config, Design}
use Rattle.knox_theory.specs.Script.{State, Location, Pins, WireItems, Step, Split, Invariant, Replace, Havoc, Label, Cut, Subsume, CallItems, Run, CallSplit, CallInvariant, CallReplace, CallHavoc, Close, HostSections, Script}
use Rattle.knox_theory.specs.Course.{Course, Done, End, run}
use Rattle.knox_theory.specs.Segments.{Segment, segments, wire_segment}
use Rattle.knox_theory.specs.Closed.{segment_of}
use Rattle.knox_theory.specs.Traces.{trace_of}
use Rattle.knox_theory.specs.declared.event.Event.{Event}
use Rattle.knox_theory_toy.specs.Toy.{off, on, at, gated, Left}

abbrev pub last : Words → Bits
last [] = off
last (w ∷ []) = w
last (w ∷ v ∷ ws) = last (v ∷ ws)

-- the secret is the specification's field, and the mark is the kept word
abbrev pub related : (fields cells kept : Words) → Bool
related f x k = same_word (at 0 f) (at 0 x) && same_word (at 1 x) (at 0 k)

-- and the emulator shows what the circuit shows
abbrev pub mimics : State → Bool
mimics s =
    related s.fields s.cells (at 0 s.emu ∷ []) && (same_word (at 2 s.cells) (at 0 s.copy) && (same_word (at 3 s.cells) (at 1 s.copy) &&
    same_word (at 1 s.emu) (gated (at 2 s.cells) (at 0 s.cells))))

-- the word that the emulator shows
abbrev pub shown_word : Location State
shown_word = record { width = 1; get = λ s. at 1 s.emu; put = λ s b. record { fields = s.fields; cells = s.cells; emu = at 0 s.emu ∷ b ∷ []; copy = s.copy } }

abbrev pub junk_cell : Location (Config Left)
junk_cell = record {
  width = 1;
  get = λ c. at 3 c.cells;
  put = λ c b. record { left = c.left; cells = at 0 c.cells ∷ at 1 c.cells ∷ at 2 c.cells ∷ b ∷ at 4 c.cells ∷ []; inputs = c.inputs; locals = c.locals };
}

-- the pins of the first places, in order
abbrev pub pins_of : List (Option (State → Bits)) → Pins
pins_of [] k = None
pins_of (p ∷ ps) zero = p
pins_of (p ∷ ps) (suc k) = pins_of ps k

-- of the words that the root of `wire` takes: the field, the secret, the mark, the noise and the kept mark
abbrev pub root_pins : Pins
root_pins = pins_of (Some (λ s. at 0 s.fields) ∷ Some (λ s. at 0 s.cells) ∷ Some (λ s. at 1 s.cells) ∷ Some (λ s. at 3 s.cells) ∷ Some (λ s. at 0 s.emu) ∷ [])

-- A label in the section `wire`, reached again from a cut's segment where every place is pinned; and a cut that is reached again.
abbrev pub wire_items : WireItems
wire_items =
    Label 9 root_pins
    (Step 10 1
    (Cut 11 mimics
    (Step 12 1
    (Split 13 (λ p. same_word (at 2 p.state.cells) off)
    (Subsume 14 9)
    (Havoc 15 shown_word (λ p. same_word (last p.taken) (gated (at 2 p.state.cells) (at 0 p.state.cells))) (Subsume 16 11))))))

abbrev pub host_with : CallItems Left → HostSections Left
host_with items = record { idle = related; factory_hint = 1; boot_host_hint = 2; rest_hint = 3; wait_hint = 4; call_hint = λ o. 5; calls = λ o. items }

abbrev pub host : HostSections Left
host = host_with (Run 6 1 (CallHavoc 7 junk_cell (λ p. true) Close))

abbrev pub script_of : WireItems → Script Left
script_of items = record { refine = related; wire_hint = 8; wire = items; host = Some host }

abbrev pub script : Script Left
script = script_of wire_items

-- the same for wires alone
abbrev pub wire_script : Script Left
wire_script = record { refine = related; wire_hint = 8; wire = wire_items; host = None }

-- A label alone, where the root's words but for the mark are those of the present run.
abbrev pub looping : (ticks : ℕ) → Script Left
looping n = script_of (Label 9 (pins_of (None ∷ None ∷ Some (λ s. at 1 s.cells) ∷ None ∷ Some (λ s. at 0 s.emu) ∷ [])) (Step 10 n (Subsume 11 9)))

-- the same with every place unpinned
abbrev pub unpinned : (ticks : ℕ) → Script Left
unpinned n = script_of (Label 9 (λ k. None) (Step 10 n (Subsume 11 9)))

-- Checks of the gate: at power-on and two ticks later, in circuit, emulator and copy. The last is of this word.
abbrev pub checking : Bits → Script Left
checking gate =
    script_of
    (Label 9 root_pins
    (Invariant 10 (λ p. same_word (at 2 p.state.cells) off)
    (Replace 11 (λ p. at 1 p.state.emu ∷ []) (λ p. off ∷ [])
    (Step 12 2
    (Replace 13 (λ p. at 0 p.state.copy ∷ []) (λ p. gate ∷ [])
    (Subsume 14 9))))))

-- A call that is checked apart where the gate is 1: there the body ends within one tick, and the gate is this word; and where the gate is 0, it is 1
-- after the tick.
abbrev pub checked_host : Bits → HostSections Left
checked_host gate =
    host_with
    (CallSplit 6 (λ p. same_word (at 2 p.config.cells) on)
    (Run 7 1 (CallInvariant 8 (λ p. same_word (at 2 p.config.cells) gate) Close))
    (Run 9 1 (CallReplace 10 (λ p. at 2 p.config.cells ∷ []) (λ p. on ∷ []) Close)))

-- a script without ticks
abbrev pub idle_script : Script Left
idle_script = record { refine = related; wire_hint = 8; wire = Cut 9 (λ s. true) (Cut 10 (λ s. true) (Subsume 11 9)); host = None }

-- the end of a run of the segment of `wire`, and of the cut 11
abbrev pub wire_run : Design Left → Script Left → Words → End
wire_run d s cs = run (wire_segment d s).course cs

abbrev pub course_of : Option Segment → Course
course_of None = Done
course_of (Some g) = g.course

abbrev pub cut_run : Design Left → Script Left → Words → End
cut_run d s cs = run (course_of (segment_of 12 (segments d s))) cs

-- the events of the trace of choices of the segment of the cut 11
abbrev pub cut_events : Design Left → Script Left → Words → List Event
cut_events d s cs = events_or (segment_of 12 (segments d s))
  where
    events_or : Option Segment → List Event
    events_or None = []
    events_or (Some g) = (trace_of d [] [] g cs).events

abbrev pub hints_of : List Segment → List ℕ
hints_of gs = map (λ g. g.hint) gs

abbrev pub bits_of : List Segment → List ℕ
bits_of gs = map (λ g. g.choice_bits) gs

-- the number of the section or cut of the segment that has this hint, or 0
abbrev pub hint_or : Option Segment → ℕ
hint_or None = 0
hint_or (Some g) = g.hint

abbrev pub owner : ℕ → List Segment → ℕ
owner h gs = hint_or (segment_of h gs)
