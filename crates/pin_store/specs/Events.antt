-- Lists of events for the PIN store, and what is answered to them.
use Rattle.std.specs.Prelude.{ℕ, List, [], ◌∷◌, ◌++◌}
use Rattle.knox_words.specs.Bits.{bits}
use Rattle.knox_theory.specs.declared.event.Event.{Event}
use Rattle.knox_theory.specs.declared.event.Answer.{Answer}
use Rattle.knox_theory.specs.declared.event.Answer.TheVariants.{Nothing, Refused, Outs, Value, Stuck}
use Rattle.knox_theory.specs.declared.event.Event.TheVariants.{PowerHost, PowerWire, Call, Set, Read, Tick}

-- a command with data on the inputs, the data of so many bits
abbrev pub entered : (width command number : ℕ) → List Event
entered w command number = Set 0 (bits 2 command) ∷ Set 1 (bits w number) ∷ []

-- the same, then the outputs are read before a tick and after it
abbrev pub tried : (width command number : ℕ) → List Event
tried w command number = entered w command number ++ (Read ∷ Tick ∷ Read ∷ [])

-- what is answered to that, where these are shown before the tick and after it
abbrev pub showing : (before after : ℕ) → List Answer
showing before after = Nothing ∷ Nothing ∷ Outs (bits 1 before ∷ []) ∷ Nothing ∷ Outs (bits 1 after ∷ []) ∷ []

-- ---- in Wire

-- A secret is set; a wrong guess, and the right one; and no command, where the data is the secret
abbrev pub guesses : List Event
guesses = PowerWire [] ∷ (tried 4 1 9 ++ (tried 4 2 3 ++ (tried 4 2 9 ++ tried 4 0 9)))

abbrev pub guess_answers : List Answer
guess_answers = Nothing ∷ (showing 0 0 ++ (showing 0 0 ++ (showing 0 1 ++ showing 1 0)))

-- A secret is set and guessed, and power is cycled; a tick without a command, and the same guess again; and so behind a session of the host
abbrev pub cycles : List Event
cycles =
    PowerWire [] ∷ (tried 4 1 9 ++ (tried 4 2 9 ++ (PowerWire [] ∷ Read ∷ Tick ∷ Read ∷ (tried 4 2 9 ++ (PowerHost [] ∷ Tick ∷ PowerWire [] ∷ Read ∷ tried 4 2 9)))))

abbrev pub cycle_answers : List Answer
cycle_answers =
    Nothing ∷ (showing 0 0 ++ (showing 0 1 ++ (Nothing ∷ Outs (bits 1 0 ∷ []) ∷ Nothing ∷ Outs (bits 1 0 ∷ []) ∷ (showing 0 1 ++ (Nothing ∷ Nothing ∷ Nothing ∷ Outs (bits 1 0 ∷ []) ∷ showing 0 1)))))

-- secrets of both lowest bits, with guesses between them
abbrev pub odd_and_even : List Event
odd_and_even = PowerWire [] ∷ (tried 4 1 1 ++ (tried 4 2 1 ++ (tried 4 1 2 ++ tried 4 2 3)))

abbrev pub store_answers : List Answer
store_answers = Nothing ∷ (showing 0 0 ++ (showing 0 1 ++ (showing 1 0 ++ showing 0 0)))

-- the leaking circuit shows 1 as long as the lowest bit is 0, whether that was asked or not
abbrev pub leak_answers : List Answer
leak_answers = Nothing ∷ (showing 1 0 ++ (showing 0 1 ++ (showing 1 1 ++ showing 1 1)))

-- no command, and a read before a tick and after it
abbrev pub first_leak : List Event
first_leak = PowerWire [] ∷ tried 4 0 0

-- ---- in Host

-- the calls, and the result of one
abbrev pub sets : (number : ℕ) → Event
sets n = Call 0 (bits 4 n ∷ [])

abbrev pub checks : (number : ℕ) → Event
checks n = Call 1 (bits 4 n ∷ [])

abbrev pub says : (number : ℕ) → Answer
says n = Value (bits 1 n)

-- A secret is set, and asked for rightly and wrongly; power is cycled; a guess on the wires; and the host again, which sets another secret; and the wires again
abbrev pub calls : List Event
calls =
    PowerHost [] ∷ sets 9 ∷ checks 9 ∷ checks 3 ∷ PowerHost [] ∷ checks 9 ∷ PowerWire []
    ∷ (tried 4 2 9 ++ (PowerHost [] ∷ Tick ∷ checks 9 ∷ sets 3 ∷ checks 9 ∷ checks 3 ∷ PowerWire [] ∷ tried 4 2 3))

abbrev pub call_answers : List Answer
call_answers =
    Nothing ∷ says 1 ∷ says 1 ∷ says 0 ∷ Nothing ∷ says 1 ∷ Nothing
    ∷ (showing 0 1 ++ (Nothing ∷ Nothing ∷ says 1 ∷ says 1 ∷ says 0 ∷ says 1 ∷ Nothing ∷ showing 0 1))

-- a secret is set on the wires, and the host asks for it; a command is left on the wires, and the host's ticks don't do it
abbrev pub calls_after_wires : List Event
calls_after_wires =
    PowerWire [] ∷ (tried 4 1 5 ++ (PowerHost [] ∷ checks 5 ∷ checks 0 ∷ PowerWire [] ∷ (entered 4 1 9 ++ (PowerHost [] ∷ Tick ∷ checks 9 ∷ checks 5 ∷ Tick ∷ checks 5 ∷ []))))

abbrev pub later_call_answers : List Answer
later_call_answers =
    Nothing ∷ (showing 0 0 ++ (Nothing ∷ says 1 ∷ says 0 ∷ Nothing ∷ Nothing ∷ Nothing ∷ Nothing ∷ Nothing ∷ says 0 ∷ says 1 ∷ Nothing ∷ says 1 ∷ []))

-- in each mode what it answers and what it refuses
abbrev pub mixed : List Event
mixed = checks 0 ∷ Read ∷ PowerHost [] ∷ Set 0 (bits 2 1) ∷ checks 0 ∷ PowerWire [] ∷ checks 0 ∷ Set 0 (bits 2 4) ∷ Read ∷ []

abbrev pub mixed_answers : List Answer
mixed_answers = Refused ∷ Refused ∷ Nothing ∷ Refused ∷ says 1 ∷ Nothing ∷ Refused ∷ Refused ∷ Outs (bits 1 0 ∷ []) ∷ []

-- the impatient driver sets the secret and then gets stuck, and the specification doesn't
abbrev pub impatient : List Event
impatient = PowerHost [] ∷ sets 9 ∷ checks 9 ∷ []

abbrev pub stuck_answers : List Answer
stuck_answers = Nothing ∷ Stuck ∷ says 1 ∷ []

abbrev pub patient_answers : List Answer
patient_answers = Nothing ∷ says 1 ∷ says 1 ∷ []

-- the same without a question
abbrev pub first_stuck : List Event
first_stuck = PowerHost [] ∷ sets 9 ∷ []

abbrev pub stuck_at_once : List Answer
stuck_at_once = Nothing ∷ Stuck ∷ []

abbrev pub set_at_once : List Answer
set_at_once = Nothing ∷ says 1 ∷ []

-- ---- with noise

-- No word of noise, two of them, one that is too wide, and one whose number is too large; then the words of each width, which are shown until a tick;
-- and the same behind the host
abbrev pub noisy : List Event
noisy =
    PowerWire [] ∷ PowerWire (bits 1 0 ∷ bits 1 0 ∷ []) ∷ PowerHost (bits 2 1 ∷ []) ∷ PowerWire (bits 1 2 ∷ []) ∷ Read ∷ PowerWire (bits 1 1 ∷ []) ∷ Read ∷ Tick ∷ Read
    ∷ PowerWire (bits 1 0 ∷ []) ∷ Read ∷ PowerHost (bits 1 1 ∷ []) ∷ sets 9 ∷ checks 9 ∷ PowerWire (bits 1 1 ∷ []) ∷ tried 4 2 9

abbrev pub noisy_answers : List Answer
noisy_answers =
    Refused ∷ Refused ∷ Refused ∷ Refused ∷ Refused ∷ Nothing ∷ Outs (bits 1 1 ∷ []) ∷ Nothing ∷ Outs (bits 1 0 ∷ [])
    ∷ Nothing ∷ Outs (bits 1 0 ∷ []) ∷ Nothing ∷ says 1 ∷ says 1 ∷ Nothing ∷ showing 1 1

-- ---- events that are malformed, or in a mode that doesn't answer them

-- In Off: a call, a set, a read and a tick; a power event with a word of noise too many, behind which the device is off as before
abbrev pub in_off : List Event
in_off = Call 0 (bits 4 0 ∷ []) ∷ Set 0 (bits 2 1) ∷ Read ∷ Tick ∷ PowerWire (bits 1 0 ∷ []) ∷ PowerHost (bits 1 0 ∷ []) ∷ Read ∷ Tick ∷ []

abbrev pub off_answers : List Answer
off_answers = Refused ∷ Refused ∷ Refused ∷ Refused ∷ Refused ∷ Refused ∷ Refused ∷ Refused ∷ []

-- In Host, behind a secret: a set and a read; an operation out of range; an argument that is missing, one too many, one of another width and one whose number
-- is too large; a power event with a word of noise, behind which the host is attached as before. Then a tick and a question, which show that the cells are as before.
abbrev pub in_host : List Event
in_host =
    PowerHost [] ∷ sets 9 ∷ Set 0 (bits 2 1) ∷ Read ∷ Call 2 (bits 4 0 ∷ []) ∷ Call 1 [] ∷ Call 1 (bits 4 0 ∷ bits 4 0 ∷ []) ∷ Call 0 (bits 5 0 ∷ [])
    ∷ Call 0 (bits 4 16 ∷ []) ∷ PowerWire (bits 1 0 ∷ []) ∷ Read ∷ Tick ∷ checks 9 ∷ []

abbrev pub host_answers : List Answer
host_answers =
    Nothing ∷ says 1 ∷ Refused ∷ Refused ∷ Refused ∷ Refused ∷ Refused ∷ Refused ∷ Refused ∷ Refused ∷ Refused ∷ Nothing ∷ says 1 ∷ []

-- In Wire, with a command on the inputs: a call; an input out of range; a word that is too wide for its input, one that is too narrow, one whose number is
-- too large, one of 128 bits; power events with a word of noise. Then a tick and a guess, which show that the inputs and the cells are as before.
abbrev pub in_wire : List Event
in_wire =
    PowerWire [] ∷ (entered 4 1 9 ++ (Call 0 (bits 4 3 ∷ []) ∷ Set 2 (bits 1 0) ∷ Set 0 (bits 4 0) ∷ Set 1 (bits 2 0) ∷ Set 1 (bits 4 16) ∷ Set 1 (bits 128 3)
    ∷ PowerHost (bits 1 0 ∷ []) ∷ PowerWire (bits 1 0 ∷ []) ∷ Tick ∷ tried 4 2 9))

abbrev pub wire_answers : List Answer
wire_answers =
    Nothing ∷ Nothing ∷ Nothing ∷ Refused ∷ Refused ∷ Refused ∷ Refused ∷ Refused ∷ Refused ∷ Refused ∷ Refused ∷ Nothing ∷ showing 0 1
