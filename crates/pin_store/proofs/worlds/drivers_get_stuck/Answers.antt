use Rattle.std.proofs.Common.{refl}
use Rattle.pin_store.specs.Events.{impatient, stuck_answers, patient_answers}
use Rattle.pin_store.proofs.Rows.{stuck-real, stuck-ideal, store-real}
use Rattle.pin_store.proofs.worlds.drivers_get_stuck.Goals as goal

pub returns-clause-real : goal.returns-clause-real
returns-clause-real c = stuck-real 4 impatient stuck_answers refl

pub returns-clause-ideal : goal.returns-clause-ideal
returns-clause-ideal c = stuck-ideal 4 impatient patient_answers refl

pub returns-clause-store : goal.returns-clause-store
returns-clause-store c = store-real 4 impatient patient_answers refl
