use Rattle.std.proofs.Common.{◌≡◌, take}
use Rattle.knox_lang.specs.Operation.{start_of}
use Rattle.driver_machine.proofs.config.zero_locals.Given as goal

abbrev pub invariant-loop-local : goal.invariant-loop-local
invariant-loop-local l = l.out ≡ start_of (take l.local-index l.locals)
