-- The headline. For every factory content, every power-on noise and every list of events, each answer of the circuit equals, event for event, the answer
-- of the specification or of the emulator, which sees only the wires, the noise and the specification's replies.
-- The project's own, and everybody must believe it: with Device and Worlds it is all that a yes says.
use Rattle.std.specs.Prelude.{◌≡◌, List, [], ◌∷◌, Bool, true, false}
use Rattle.knox_words.specs.Lists.{Words, fit}
use Rattle.knox_theory.specs.declared.event.Event.{Event}
use Rattle.knox_theory.specs.declared.event.Event.TheVariants.{PowerHost, Call}
use Rattle.knox_theory.specs.Device.{Device}
use Rattle.knox_theory.specs.Worlds.{real, ideal}

-- every factory content           `noise`: any words of the widths of the device's factory noise
-- every power-on noise            is part of the power events, and so of `events`
-- every list of events            `events` is any list. Malformed events and events in a wrong mode are among them, and a power-cycle may stand anywhere.
-- each answer of the circuit      `real d noise events`: the answers of the circuit, and of its driver where the event is a call
-- equals, event for event         `≡` of the two lists: they are of one length, and the k-th answers are equal for every k
-- of the specification            `ideal d events` answers a call by the specification's operation, on the fields that calls and queries left;
-- or of the emulator              it answers a read by the emulator's outputs, and has no cells of the circuit. The factory noise is not in it.
-- sees only the wires, the noise  `emu_power`, `emu_outs` and `emu_tick` of a device have no further arguments but what the emulator kept or left itself;
-- and the specification's replies a tick is an `Asking`, to which the specification's fields come as replies alone
abbrev pub Agree : Device → Type 0
Agree d = (noise : Words) → fit d.factory_noise noise ≡ true → (events : List Event) → real d noise events ≡ ideal d events

-- whether no event of a list is a `PowerHost` or a `Call`
abbrev pub are_of_wires : List Event → Bool
are_of_wires [] = true
are_of_wires (PowerHost noise ∷ events) = false
are_of_wires (Call o args ∷ events) = false
are_of_wires (event ∷ events) = are_of_wires events

-- agreement where no trusted host is ever attached
abbrev pub AgreeOnWires : Device → Type 0
AgreeOnWires d = (noise : Words) → fit d.factory_noise noise ≡ true → (events : List Event) → are_of_wires events ≡ true → real d noise events ≡ ideal d events
