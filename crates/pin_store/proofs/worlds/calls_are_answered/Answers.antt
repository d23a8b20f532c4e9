use Rattle.std.proofs.Common.{refl}
use Rattle.pin_store.specs.Events.{calls, call_answers}
use Rattle.pin_store.proofs.Rows.{store-real, store-ideal}
use Rattle.pin_store.proofs.worlds.calls_are_answered.Goals as goal

pub returns-clause-real : goal.returns-clause-real
returns-clause-real c = store-real 4 calls call_answers refl

pub returns-clause-ideal : goal.returns-clause-ideal
returns-clause-ideal c = store-ideal 4 calls call_answers refl
