use Rattle.std.proofs.Common.{◌∷◌, refl}
use Rattle.knox_theory.specs.declared.event.Answer.TheVariants.{Nothing}
use Rattle.pin_store.specs.Events.{first_leak, showing}
use Rattle.pin_store.proofs.Rows.{leak-real, leak-ideal}
use Rattle.pin_store.proofs.Leaking.{leak-trace, leak-open, leak-disagrees}
use Rattle.pin_store.proofs.runs.leaks_are_told.Goals as goal

pub returns-clause-trace : goal.returns-clause-trace
returns-clause-trace c = leak-trace

pub returns-clause-real : goal.returns-clause-real
returns-clause-real c = leak-real 4 first_leak (Nothing ∷ showing 1 1) refl

pub returns-clause-ideal : goal.returns-clause-ideal
returns-clause-ideal c = leak-ideal 4 first_leak (Nothing ∷ showing 0 0) refl

pub returns-clause-closed : goal.returns-clause-closed
returns-clause-closed c closed = leak-open closed

pub returns-clause-agree : goal.returns-clause-agree
returns-clause-agree c agree = leak-disagrees agree
