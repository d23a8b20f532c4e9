use Rattle.std.proofs.Common.{refl}
use Rattle.pin_store.specs.Events.{mixed, mixed_answers}
use Rattle.pin_store.proofs.Rows.{store-real, store-ideal}
use Rattle.pin_store.proofs.worlds.modes_are_kept.Goals as goal

pub returns-clause-real : goal.returns-clause-real
returns-clause-real c = store-real 4 mixed mixed_answers refl

pub returns-clause-ideal : goal.returns-clause-ideal
returns-clause-ideal c = store-ideal 4 mixed mixed_answers refl
