use Rattle.std.proofs.Common.{refl, []}
use Rattle.knox_theory.specs.Course.{Held, Failed}
use Rattle.pin_store.specs.Hinted.{powered, rested, called}
use Rattle.pin_store.proofs.Hinting.{both, plain_right, refined, secret, showing}
use Rattle.pin_store.proofs.Running.{store-run}
use Rattle.pin_store.proofs.runs.idle_states_fail.Goals as goal

pub returns-clause-attached : goal.returns-clause-attached
returns-clause-attached c = store-run (record plain_right { idle = both refined (showing 1) }) 3 (powered 9 9) (Failed 6) refl

pub returns-clause-waits : goal.returns-clause-waits
returns-clause-waits c = store-run (record plain_right { idle = both refined (showing 1) }) 5 (rested 9 9 1) (Failed 8) refl

pub returns-clause-set : goal.returns-clause-set
returns-clause-set c = store-run (record plain_right { idle = both refined (showing 1) }) 6 (called 9 9 1 3) (Failed 9) refl

pub returns-clause-set_silent : goal.returns-clause-set_silent
returns-clause-set_silent c = store-run (record plain_right { idle = both refined (showing 0) }) 6 (called 9 9 0 3) Held refl

pub returns-clause-right : goal.returns-clause-right
returns-clause-right c = store-run (record plain_right { idle = both refined (showing 0) }) 7 (called 9 9 0 9) (Failed 10) refl

pub returns-clause-wrong : goal.returns-clause-wrong
returns-clause-wrong c = store-run (record plain_right { idle = both refined (showing 0) }) 7 (called 9 9 0 3) Held refl

pub returns-clause-rested : goal.returns-clause-rested
returns-clause-rested c = store-run (record plain_right { idle = showing 0 }) 4 (rested 9 3 0) (Failed 7) refl

pub returns-clause-asked : goal.returns-clause-asked
returns-clause-asked c = store-run (record plain_right { idle = showing 0 }) 7 (called 9 3 0 9) (Failed 10) refl

pub returns-clause-factory : goal.returns-clause-factory
returns-clause-factory c = store-run (record plain_right { refine = both refined (secret 9) }) 2 [] (Failed 5) refl
