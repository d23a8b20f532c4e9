-- The trace that is tried for choices that falsify a hint, and what is told of their run besides.
-- The project's own. Nobody has to believe it for a yes, nor for a no, whose trace speaks for itself: that the two worlds differ on it.
-- Who is told that the worlds agree on the trace of a hint must believe `trace_of`.
use Rattle.std.specs.Prelude.{◌≡◌, ℕ, suc, nat_lt, ◌+◌, List, [], ◌∷◌, ◌++◌, length, take, drop, replicate, Bool, true, false, ◌&&◌, ◌==◌, if◌then◌else◌}
use Rattle.knox_words.specs.Lists.{Words, fits, fit, zeros}
use Rattle.knox_theory.specs.declared.event.Event.{Event}
use Rattle.knox_theory.specs.declared.event.Event.TheVariants.{PowerHost, PowerWire, Call, Set, Read, Tick}
use Rattle.knox_theory.specs.declared.event.Trace.{Trace}
use Rattle.knox_theory.specs.Device.{Device}
use Rattle.knox_theory.specs.Design.{Design}
use Rattle.knox_theory.specs.Course.{Note, Entered, Turned, Drove, Ticking, Course, Check, Assume, Take, Mark, Tell, Done, told}
use Rattle.knox_theory.specs.Segments.{Kind, OfFactory, OfBootHost, OfRest, OfWait, OfCall, OfWire, OfCut, Segment}

-- the words of the choices behind the first n, as many as there are widths
abbrev pub words_at : ℕ → List ℕ → Words → Words
words_at n ws cs = take (length ws) (drop n cs)

-- every input in order, from number k on
abbrev pub sets : ℕ → Words → List Event
sets k [] = []
sets k (w ∷ ws) = Set k w ∷ sets (suc k) ws

-- per tick begun: every input, the outputs, the tick
abbrev pub shown : List Note → List Event
shown [] = []
shown (Ticking i ∷ ns) = sets 0 i ++ (Read ∷ Tick ∷ shown ns)
shown (Entered ∷ ns) = shown ns
shown (Turned b ∷ ns) = shown ns
shown (Drove bs ∷ ns) = shown ns

-- the events of a run of a segment over some choices, by the segment's kind and course
abbrev pub events_of : {P : Type 0} → Design P → Kind → Course → (choices : Words) → List Event
events_of d OfFactory t cs = []
events_of d OfBootHost t cs = PowerHost (words_at (length d.fields + length d.persistent.widths) d.device.noise cs) ∷ []
events_of d OfRest t cs = PowerHost (zeros d.device.noise) ∷ []
events_of d OfWait t cs = PowerHost (zeros d.device.noise) ∷ Tick ∷ []
events_of d (OfCall o) t cs = PowerHost (zeros d.device.noise) ∷ Call o (words_at (length d.fields + length d.cells.widths) (d.device.args o) cs) ∷ []
events_of d OfWire t cs = PowerWire (words_at (length d.fields + length d.persistent.widths) d.device.noise cs) ∷ (shown (told t cs) ++ (Read ∷ []))
events_of d (OfCut n) t cs = PowerWire (zeros d.device.noise) ∷ (replicate n Tick ++ (shown (told t cs) ++ (Read ∷ [])))

abbrev pub noise_of : Device → Kind → (choices : Words) → Words
noise_of d OfFactory cs = words_at 0 d.factory_noise cs
noise_of d k cs = zeros d.factory_noise

-- the trace that is tried for choices over which the run of this segment fails
abbrev pub trace_of : {P : Type 0} → Design P → (before after : List Event) → Segment → (choices : Words) → Trace
trace_of d before after g cs = record { factory = noise_of d.device g.kind cs; events = before ++ (events_of d g.kind g.course cs ++ after) }

-- the outcomes of the driver's tests in what a run tells, and those of the splits
abbrev pub drove : List Note → List Bool
drove [] = []
drove (Drove bs ∷ ns) = bs ++ drove ns
drove (Entered ∷ ns) = drove ns
drove (Turned b ∷ ns) = drove ns
drove (Ticking i ∷ ns) = drove ns

abbrev pub turned : List Note → List Bool
turned [] = []
turned (Entered ∷ ns) = turned ns
turned (Turned b ∷ ns) = b ∷ turned ns
turned (Drove bs ∷ ns) = turned ns
turned (Ticking i ∷ ns) = turned ns

-- How many checks of hint h a run passes: a run that fails at h falsifies the obligation of h with this number, from 0.
-- At a step these are the outputs and refine of one tick after another.
abbrev pub passed_checks : ℕ → Course → Words → ℕ
passed_checks h (Check ok k rest) cs = if ok then (if h == k then suc (passed_checks h rest cs) else passed_checks h rest cs) else 0
passed_checks h (Assume ok rest) cs = if ok then passed_checks h rest cs else 0
passed_checks h (Take w rest) [] = 0
passed_checks h (Take w rest) (c ∷ cs) = if fits w c then passed_checks h (rest c) cs else 0
passed_checks h (Mark l s rest) cs = passed_checks h rest cs
passed_checks h (Tell n rest) cs = passed_checks h rest cs
passed_checks h Done cs = 0

-- the outcomes of all tests that the driver meets in a run; none in a segment that isn't of a call
abbrev pub branch_word : Course → (choices : Words) → List Bool
branch_word t cs = drove (told t cs)

abbrev pub has_entered : List Note → Bool
has_entered [] = false
has_entered (Entered ∷ ns) = true
has_entered (Turned b ∷ ns) = has_entered ns
has_entered (Drove bs ∷ ns) = has_entered ns
has_entered (Ticking i ∷ ns) = has_entered ns

-- the run passes the condition at its root
abbrev pub enters_root : Course → (choices : Words) → Bool
enters_root t cs = has_entered (told t cs)

abbrev pub is_of_factory : Kind → Bool
is_of_factory OfFactory = true
is_of_factory kind = false

abbrev pub is_of_call : Kind → Bool
is_of_call (OfCall o) = true
is_of_call kind = false

-- An event is in range where its operation and its input are there. It may be malformed in all else.
abbrev pub is_in_range : Device → Event → Bool
is_in_range d (PowerHost noise) = true
is_in_range d (PowerWire noise) = true
is_in_range d (Call o args) = nat_lt o d.ops
is_in_range d (Set k word) = nat_lt k (length d.ins)
is_in_range d Read = true
is_in_range d Tick = true

abbrev pub are_in_range : Device → List Event → Bool
are_in_range d [] = true
are_in_range d (event ∷ events) = is_in_range d event && are_in_range d events

-- what is asked of a trace
pub record FitsTrace (d : Device) (t : Trace) : Type 0 where
  pub noise : fit d.factory_noise t.factory ≡ true
  pub events : are_in_range d t.events ≡ true
