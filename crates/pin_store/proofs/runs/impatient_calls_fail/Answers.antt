use Rattle.std.proofs.Common.{refl}
use Rattle.knox_theory.specs.Course.{Held, Vacuous, Failed}
use Rattle.pin_store.specs.Hinted.{called}
use Rattle.pin_store.proofs.Running.{stuck-run}
use Rattle.pin_store.specs.Events.{first_stuck, stuck_at_once, set_at_once}
use Rattle.pin_store.proofs.Rows.{stuck-real, stuck-ideal}
use Rattle.pin_store.proofs.Leaking.{stuck-falsified, stuck-trace, stuck-open, stuck-disagrees}
use Rattle.pin_store.proofs.runs.impatient_calls_fail.Goals as goal

pub returns-clause-set : goal.returns-clause-set
returns-clause-set c = stuck-run 6 (called 0 0 0 9) (Failed 9) refl

pub returns-clause-vacuous : goal.returns-clause-vacuous
returns-clause-vacuous c = stuck-run 6 (called 9 3 0 9) Vacuous refl

pub returns-clause-check : goal.returns-clause-check
returns-clause-check c = stuck-run 7 (called 9 9 0 9) Held refl

pub returns-clause-falsified : goal.returns-clause-falsified
returns-clause-falsified c = stuck-falsified

pub returns-clause-trace : goal.returns-clause-trace
returns-clause-trace c = stuck-trace

pub returns-clause-real : goal.returns-clause-real
returns-clause-real c = stuck-real 4 first_stuck stuck_at_once refl

pub returns-clause-ideal : goal.returns-clause-ideal
returns-clause-ideal c = stuck-ideal 4 first_stuck set_at_once refl

pub returns-clause-closed : goal.returns-clause-closed
returns-clause-closed c x = stuck-open x

pub returns-clause-agree : goal.returns-clause-agree
returns-clause-agree c x = stuck-disagrees x
