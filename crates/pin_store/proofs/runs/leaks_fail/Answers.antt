use Rattle.std.proofs.Common.{refl}
use Rattle.knox_theory.specs.Course.{Held, Vacuous, Failed}
use Rattle.pin_store.specs.Hinted.{chosen}
use Rattle.pin_store.proofs.Hinting.{plain_right}
use Rattle.pin_store.proofs.Running.{leak-run}
use Rattle.pin_store.proofs.Leaking.{leak-falsified}
use Rattle.pin_store.proofs.runs.leaks_fail.Goals as goal

pub returns-clause-even : goal.returns-clause-even
returns-clause-even c = leak-run plain_right 1 (chosen 0 0 0 0 0 0) (Failed 3) refl

pub returns-clause-eight : goal.returns-clause-eight
returns-clause-eight c = leak-run plain_right 1 (chosen 8 8 0 0 2 8) (Failed 3) refl

pub returns-clause-odd : goal.returns-clause-odd
returns-clause-odd c = leak-run plain_right 1 (chosen 9 9 0 0 2 8) Held refl

pub returns-clause-shown : goal.returns-clause-shown
returns-clause-shown c = leak-run plain_right 1 (chosen 8 8 1 1 1 7) Held refl

pub returns-clause-vacuous : goal.returns-clause-vacuous
returns-clause-vacuous c = leak-run plain_right 1 (chosen 8 9 0 0 0 0) Vacuous refl

pub returns-clause-falsified : goal.returns-clause-falsified
returns-clause-falsified c = leak-falsified
