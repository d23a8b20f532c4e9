use Rattle.std.proofs.Common.{refl, ◌∷◌, []}
use Rattle.knox_words.specs.Bits.{bits}
use Rattle.knox_theory.specs.Course.{Held, Vacuous, Short}
use Rattle.pin_store.specs.Hinted.{chosen}
use Rattle.pin_store.proofs.Hinting.{plain_right}
use Rattle.pin_store.proofs.Running.{store-run}
use Rattle.pin_store.proofs.runs.ticks_run.Goals as goal

pub returns-clause-right : goal.returns-clause-right
returns-clause-right c = store-run plain_right 1 (chosen 9 9 0 0 2 9) Held refl

pub returns-clause-wrong : goal.returns-clause-wrong
returns-clause-wrong c = store-run plain_right 1 (chosen 9 9 1 1 2 3) Held refl

pub returns-clause-new : goal.returns-clause-new
returns-clause-new c = store-run plain_right 1 (chosen 9 9 1 1 1 3) Held refl

pub returns-clause-none : goal.returns-clause-none
returns-clause-none c = store-run plain_right 1 (chosen 9 9 0 0 3 9) Held refl

pub returns-clause-secret : goal.returns-clause-secret
returns-clause-secret c = store-run plain_right 1 (chosen 9 3 0 0 2 9) Vacuous refl

pub returns-clause-emulator : goal.returns-clause-emulator
returns-clause-emulator c = store-run plain_right 1 (chosen 9 9 1 0 2 9) Vacuous refl

pub returns-clause-missing : goal.returns-clause-missing
returns-clause-missing c = store-run plain_right 1 (bits 4 9 ∷ bits 4 9 ∷ bits 1 0 ∷ bits 1 0 ∷ bits 2 2 ∷ []) Short refl

pub returns-clause-wide : goal.returns-clause-wide
returns-clause-wide c = store-run plain_right 1 (bits 4 9 ∷ bits 4 9 ∷ bits 2 0 ∷ []) Short refl
