-- The bits of gates under an assignment of the inputs, which gives each input's number a bit.
use Rattle.std.specs.Prelude.{ℕ, ◌<◌, Bool, false, not, ◌&&◌, if◌then◌else◌, List, slice_get, Some, ◌≡◌}
use Rattle.bit_gates.specs.declared.signal.Signal.{Signal}
use Rattle.bit_gates.specs.declared.signal.Signal.TheVariants as signal
use Rattle.bit_gates.specs.declared.signal.Gate.{Gate}
use Rattle.bit_gates.specs.declared.signal.Gate.TheVariants as gate
use Rattle.bit_gates.specs.Rolled.{value_at}

-- whether two bits differ
abbrev pub differ : Bool → Bool → Bool
differ a b = if a then not b else b

-- the complement of a signal
abbrev pub opposite : Signal → Signal
opposite (signal.Constant b) = signal.Constant (not b)
opposite (signal.Plain k) = signal.Turned k
opposite (signal.Turned k) = signal.Plain k

-- a signal, over the bits of gates
abbrev pub signal_over : (ℕ → Bool) → Signal → Bool
signal_over at (signal.Constant b) = b
signal_over at (signal.Plain k) = at k
signal_over at (signal.Turned k) = not (at k)

-- a gate, over the inputs and the bits of the gates before it
abbrev pub gate_over : (ℕ → Bool) → (ℕ → Bool) → Gate → Bool
gate_over v at (gate.Input n) = v n
gate_over v at (gate.And a b) = signal_over at a && signal_over at b
gate_over v at (gate.Xor a b) = differ (signal_over at a) (signal_over at b)
gate_over v at (gate.Choose c a b) = if signal_over at c then signal_over at a else signal_over at b

-- the bit of the gate at a place
abbrev pub gate_at : (ℕ → Bool) → List Gate → ℕ → Bool
gate_at v gs k = value_at false (gate_over v) gs k

-- the bit of a signal
abbrev pub signal_at : (ℕ → Bool) → List Gate → Signal → Bool
signal_at v gs s = signal_over (gate_at v gs) s

-- a signal names no gate from place k on
abbrev pub IsBelow : ℕ → Signal → Type 0
IsBelow k (signal.Constant b) = Unit {0}
IsBelow k (signal.Plain j) = j < k
IsBelow k (signal.Turned j) = j < k

-- a gate takes no signal from place k on
abbrev pub TakesBelow : ℕ → Gate → Type 0
TakesBelow k (gate.Input n) = Unit {0}
TakesBelow k (gate.And a b) = IsBelow k a × IsBelow k b
TakesBelow k (gate.Xor a b) = IsBelow k a × IsBelow k b
TakesBelow k (gate.Choose c a b) = IsBelow k c × IsBelow k a × IsBelow k b

-- each gate takes signals before it
pub record IsCircuit (gs : List Gate) : Type 0 where
  pub each : (k : ℕ) (g : Gate) → slice_get gs k ≡ Some g → TakesBelow k g
