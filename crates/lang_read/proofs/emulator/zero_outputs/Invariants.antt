use Rattle.std.proofs.Common.{◌≡◌, take}
use Rattle.lang_read.specs.Emulators.{zero_outputs}
use Rattle.lang_read.proofs.emulator.zero_outputs.Given as goal

abbrev pub invariant-loop-port : goal.invariant-loop-port
invariant-loop-port l = l.exprs ≡ zero_outputs (take l.port-index l.ports)
