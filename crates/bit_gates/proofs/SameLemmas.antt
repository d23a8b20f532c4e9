-- What the tests of equality say.
use Rattle.std.proofs.Common.{rules, ◌≡◌, true, false, Bool, ◌&&◌, refl}
use Rattle.bit_gates.specs.declared.signal.Signal.{Signal}
use Rattle.bit_gates.specs.declared.signal.Signal.TheVariants as signal
use Rattle.bit_gates.specs.declared.signal.Gate.{Gate}
use Rattle.bit_gates.specs.declared.signal.Gate.TheVariants as gate
use Rattle.bit_gates.specs.contracts.signal.SignalPartialEq.TheImpl as by_signal
use Rattle.bit_gates.specs.contracts.signal.GatePartialEq.TheImpl as by_gate

pub signal-same : (a b : Signal) → by_signal.ghosts.eq a b ≡ true → a ≡ b
signal-same (signal.Constant a) (signal.Constant b) e = search rules
signal-same (signal.Constant a) (signal.Plain b) e = cc
signal-same (signal.Constant a) (signal.Turned b) e = cc
signal-same (signal.Plain a) (signal.Constant b) e = cc
signal-same (signal.Plain a) (signal.Plain b) e = search rules
signal-same (signal.Plain a) (signal.Turned b) e = cc
signal-same (signal.Turned a) (signal.Constant b) e = cc
signal-same (signal.Turned a) (signal.Plain b) e = cc
signal-same (signal.Turned a) (signal.Turned b) e = search rules

both : (x y : Bool) → (x && y) ≡ true → (x ≡ true) × (y ≡ true)
both true y e = (refl, e)
both false y e = cc

pub gate-same : (a b : Gate) → by_gate.ghosts.eq a b ≡ true → a ≡ b
gate-same (gate.Input a0) (gate.Input b0) e = search rules
gate-same (gate.Input a0) (gate.And b0 b1) e = cc
gate-same (gate.Input a0) (gate.Xor b0 b1) e = cc
gate-same (gate.Input a0) (gate.Choose b0 b1 b2) e = cc
gate-same (gate.And a0 a1) (gate.Input b0) e = cc
gate-same (gate.And a0 a1) (gate.And b0 b1) e =
    let p = both (by_signal.ghosts.eq a0 b0) (by_signal.ghosts.eq a1 b1) e in
    rw (signal-same a0 b0 p.0, signal-same a1 b1 p.1) refl
gate-same (gate.And a0 a1) (gate.Xor b0 b1) e = cc
gate-same (gate.And a0 a1) (gate.Choose b0 b1 b2) e = cc
gate-same (gate.Xor a0 a1) (gate.Input b0) e = cc
gate-same (gate.Xor a0 a1) (gate.And b0 b1) e = cc
gate-same (gate.Xor a0 a1) (gate.Xor b0 b1) e =
    let p = both (by_signal.ghosts.eq a0 b0) (by_signal.ghosts.eq a1 b1) e in
    rw (signal-same a0 b0 p.0, signal-same a1 b1 p.1) refl
gate-same (gate.Xor a0 a1) (gate.Choose b0 b1 b2) e = cc
gate-same (gate.Choose a0 a1 a2) (gate.Input b0) e = cc
gate-same (gate.Choose a0 a1 a2) (gate.And b0 b1) e = cc
gate-same (gate.Choose a0 a1 a2) (gate.Xor b0 b1) e = cc
gate-same (gate.Choose a0 a1 a2) (gate.Choose b0 b1 b2) e =
    let p = both (by_signal.ghosts.eq a0 b0) (by_signal.ghosts.eq a1 b1 && by_signal.ghosts.eq a2 b2) e in
    let q = both (by_signal.ghosts.eq a1 b1) (by_signal.ghosts.eq a2 b2) p.1 in
    rw (signal-same a0 b0 p.0, signal-same a1 b1 q.0, signal-same a2 b2 q.1) refl
