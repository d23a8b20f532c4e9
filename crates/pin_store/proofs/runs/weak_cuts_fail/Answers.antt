use Rattle.std.proofs.Common.{refl}
use Rattle.knox_theory.specs.Course.{Held, Failed}
use Rattle.pin_store.specs.Hinted.{chosen}
use Rattle.pin_store.proofs.Hinting.{both, mimicked, plain_right, refined, showing}
use Rattle.pin_store.proofs.Running.{store-run}
use Rattle.pin_store.proofs.runs.weak_cuts_fail.Goals as goal

pub returns-clause-outputs : goal.returns-clause-outputs
returns-clause-outputs c = store-run (record plain_right { cut = refined }) 1 (chosen 0 0 0 1 0 0) (Failed 3) refl

pub returns-clause-same : goal.returns-clause-same
returns-clause-same c = store-run (record plain_right { cut = refined }) 1 (chosen 0 0 1 1 0 0) Held refl

pub returns-clause-subsume : goal.returns-clause-subsume
returns-clause-subsume c = store-run (record plain_right { cut = both mimicked (showing 0) }) 1 (chosen 9 9 0 0 2 9) (Failed 4) refl

pub returns-clause-silent : goal.returns-clause-silent
returns-clause-silent c = store-run (record plain_right { cut = both mimicked (showing 0) }) 1 (chosen 9 9 0 0 2 3) Held refl
