-- The segments of `wire` and of its cuts as courses: what each item checks, in which order words are taken, and when a subsume holds.
-- The project's own. Nobody has to believe it for a yes. Who is told of choices that falsify a hint must believe it, since it says what was checked there.
-- In a case h is the item's hint, c its condition, x its location, rest the items after it; p is the place of the run.
use Rattle.std.specs.Prelude.{ℕ, zero, suc, ◌+◌, ◌*◌, ◌==◌, ◌&&◌, Option, Some, None, [], ◌∷◌, ◌++◌, length, Bool, true, false, if◌then◌else◌}
use Rattle.knox_words.specs.Bits.{Bits}
use Rattle.knox_words.specs.Lists.{Words, same_words}
use Rattle.knox_theory.specs.Device.{answered}
use Rattle.knox_theory.specs.Design.{Design}
use Rattle.knox_theory.specs.Course.{Entered, Turned, Ticking, Course, Check, Assume, Take, Mark, Tell, Done, Arrival, Reached, Missed, reach, takes}
use Rattle.knox_theory.specs.Script.{State, Place, Pins, WireItems, Step, Split, Invariant, Replace, Havoc, Label, Cut, Subsume, Script}

-- this state, with more words taken
abbrev pub noted : State → Words → Words → Place
noted s taken ws = record { state = s; taken = taken ++ ws }

-- equal in every field, device, emulator and copy word
abbrev pub same_state : State → State → Bool
same_state a b = same_words a.fields b.fields && (same_words a.cells b.cells && (same_words a.emu b.emu && same_words a.copy b.copy))

-- circuit, emulator and specification after one tick
abbrev pub ticked : {P : Type 0} → Design P → State → Words → State
ticked d s i =
    let t = answered d.device s.fields (d.device.emu_tick s.emu s.copy i) in
    record { fields = t.fields; cells = d.device.tick s.cells i; emu = t.emu; copy = t.copy }

-- the outputs of circuit and emulator are equal under these inputs
abbrev pub same_outs : {P : Type 0} → Design P → State → Words → Bool
same_outs d s i = same_words (d.device.outs s.cells i) (d.device.emu_outs s.emu s.copy i)

-- `refine` of a state, over the words that the emulator keeps
abbrev pub is_refined : {P : Type 0} → Design P → Script P → State → Bool
is_refined d s p = s.refine p.fields (d.device.persistent_of p.cells) (d.device.kept_of p.emu)

-- The root of a segment, behind its words: the run is vacuous where this is false, and else it tells that it entered. `factory` has no such condition.
abbrev pub enters : Bool → Course → Course
enters ok rest = Assume ok (Tell Entered rest)

-- n ticks of hint h, and what follows: at each a word for each input, then outputs under them, then `refine` after the tick
abbrev pub steps : {P : Type 0} → Design P → Script P → ℕ → ℕ → Place → (Place → Course) → Course
steps d s h zero p rest = rest p
steps d s h (suc n) p rest =
    takes d.device.ins (λ i.
    Tell (Ticking i)
    (Check (same_outs d p.state i) h
    (Check (is_refined d s (ticked d p.state i)) h
    (steps d s h n (noted (ticked d p.state i) p.taken i) rest))))

-- a split, by its outcome
abbrev pub forks : Bool → Course → Course → Course
forks true a b = Tell (Turned true) a
forks false a b = Tell (Turned false) b

-- The course of items from a place on. `passes` says whether a subsume of a hint holds at a place. The condition of a havoc is of the state before it.
abbrev pub course : {P : Type 0} → Design P → Script P → (ℕ → Place → Bool) → WireItems → Place → Course
course d s passes (Step h n rest) p = steps d s h n p (λ q. course d s passes rest q)
course d s passes (Split h t a b) p = forks (t p) (course d s passes a p) (course d s passes b p)
course d s passes (Invariant h c rest) p = Check (c p) h (course d s passes rest p)
course d s passes (Replace h a b rest) p = Check (same_words (a p) (b p)) h (course d s passes rest p)
course d s passes (Havoc h x c rest) p =
    Check (c (noted p.state p.taken (x.get p.state ∷ []))) h
    (Take x.width (λ b.
    Assume (c (noted p.state p.taken (b ∷ [])))
    (course d s passes rest (noted (x.put p.state b) p.taken (b ∷ [])))))
course d s passes (Label h pins rest) p = Mark h p (course d s passes rest p)
course d s passes (Cut h c rest) p = Check (c p.state) h Done
course d s passes (Subsume h l) p = Check (passes l p) h Done

-- the state after a power-cycle in wire mode
abbrev pub attached : {P : Type 0} → Design P → (fields persistent noise kept : Words) → State
attached d fields persistent noise kept =
    let e = d.device.emu_power noise kept in
    record { fields = fields; cells = d.device.power persistent noise; emu = e.0; copy = e.1 }

-- the segment of `wire`
abbrev pub wire_course : {P : Type 0} → Design P → Script P → (ℕ → Place → Bool) → Course
wire_course d s passes =
    takes d.fields (λ fields. takes d.persistent.widths (λ persistent. takes d.device.noise (λ noise. takes d.kept (λ kept.
    enters (s.refine fields (d.persistent.fill persistent) kept)
    (course d s passes s.wire (record { state = attached d fields (d.persistent.fill persistent) noise kept; taken = fields ++ (persistent ++ (noise ++ kept)) }))))))

-- a state from the words that the root of a cut's segment takes
abbrev pub filled : {P : Type 0} → Design P → (fields cells emu copy : Words) → State
filled d fields cells emu copy = record { fields = fields; cells = d.cells.fill cells; emu = emu; copy = d.copy.fill copy }

-- the segment of a cut, by its condition and the items after it
abbrev pub cut_course : {P : Type 0} → Design P → Script P → (ℕ → Place → Bool) → (State → Bool) → WireItems → Course
cut_course d s passes c rest =
    takes d.fields (λ fields. takes d.cells.widths (λ cells. takes d.emu (λ emu. takes d.copy.widths (λ copy.
    enters (c (filled d fields cells emu copy))
    (course d s passes rest (record { state = filled d fields cells emu copy; taken = fields ++ (cells ++ (emu ++ copy)) }))))))

-- a run towards a label goes past no subsume
abbrev pub never : ℕ → Place → Bool
never l p = false

-- what a subsume leads to: a cut with its condition, or a label with its pins, behind so many places of its segment
pub data Target : Type 0 where
  Absent : Target
  ToCut : (holds : State → Bool) → Target
  ToLabel : (places : ℕ) (pins : Pins) (segment : Course) → Target

-- the first that is there
abbrev pub either : Target → Target → Target
either Absent b = b
either (ToCut c) b = ToCut c
either (ToLabel n pins g) b = ToLabel n pins g

-- how many words the roots of the segments take
abbrev pub wire_places : {P : Type 0} → Design P → ℕ
wire_places d = length d.fields + (length d.persistent.widths + (length d.device.noise + length d.kept))

abbrev pub cut_places : {P : Type 0} → Design P → ℕ
cut_places d = length d.fields + (length d.cells.widths + (length d.emu + length d.copy.widths))

-- What the hint l stands for, among these items of the segment with this course. A run of it takes n words before them.
abbrev pub find : {P : Type 0} → Design P → Script P → ℕ → WireItems → (n : ℕ) → Course → Target
find d s l (Step h k rest) n g = find d s l rest (n + k * length d.device.ins) g
find d s l (Split h t a b) n g = either (find d s l a n g) (find d s l b n g)
find d s l (Invariant h c rest) n g = find d s l rest n g
find d s l (Replace h a b rest) n g = find d s l rest n g
find d s l (Havoc h x c rest) n g = find d s l rest (n + 1) g
find d s l (Label h pins rest) n g = if l == h then ToLabel n pins g else find d s l rest n g
find d s l (Cut h c rest) n g = if l == h then ToCut c else find d s l rest (cut_places d) (cut_course d s never c rest)
find d s l (Subsume h m) n g = Absent

abbrev pub head_or : Bits → Words → Bits
head_or b [] = b
head_or b (w ∷ ws) = w

abbrev pub tail : Words → Words
tail [] = []
tail (w ∷ ws) = ws

-- the present value at a pin, or where there is none the word that was taken
abbrev pub pinned : Option (State → Bits) → State → Bits → Bits
pinned None p w = w
pinned (Some get) p w = get p

-- The rebased choices, one word for each of n places from place k on: a pinned place gets the present value, any other the word that the present run
-- took there. Where it took none, the word has width 0, which no run takes.
abbrev pub rebased : (k n : ℕ) → Pins → State → (taken : Words) → Words
rebased k zero pins p taken = []
rebased k (suc n) pins p taken = pinned (pins k) p (head_or (record { width = 0; value = 0 }) taken) ∷ rebased (suc k) n pins p (tail taken)

-- a run came to the label in the present state
abbrev pub arrives : Arrival → State → Bool
arrives (Reached q) p = same_state q.state p
arrives Missed p = false

-- whether a subsume of hint l holds, by what l stands for
abbrev pub passed : ℕ → Target → Place → Bool
passed l Absent p = false
passed l (ToCut c) p = c p.state
passed l (ToLabel n pins g) p = arrives (reach l g (rebased 0 n pins p.state p.taken)) p.state

-- the check of a subsume
abbrev pub subsumes : {P : Type 0} → Design P → Script P → ℕ → Place → Bool
subsumes d s l p = passed l (find d s l s.wire (wire_places d) (wire_course d s never)) p
