use Rattle.std.proofs.Common.{refl, ◌∷◌, []}
use Rattle.knox_words.specs.Bits.{bits}
use Rattle.knox_theory.specs.Course.{Held, Vacuous, Failed, Short}
use Rattle.pin_store.specs.Hinted.{rested, called}
use Rattle.pin_store.proofs.Hinting.{plain_right}
use Rattle.pin_store.proofs.Running.{leak-run, store-run}
use Rattle.pin_store.proofs.runs.host_ticks_run.Goals as goal

pub returns-clause-waits : goal.returns-clause-waits
returns-clause-waits c = store-run plain_right 5 (rested 9 9 1) Held refl

pub returns-clause-not_idle : goal.returns-clause-not_idle
returns-clause-not_idle c = store-run plain_right 5 (rested 9 3 1) Vacuous refl

pub returns-clause-no_answer : goal.returns-clause-no_answer
returns-clause-no_answer c = store-run plain_right 5 (bits 4 9 ∷ bits 4 9 ∷ bits 2 1 ∷ []) Short refl

pub returns-clause-set : goal.returns-clause-set
returns-clause-set c = store-run plain_right 6 (called 9 9 1 3) Held refl

pub returns-clause-set_vacuous : goal.returns-clause-set_vacuous
returns-clause-set_vacuous c = store-run plain_right 6 (called 9 3 1 3) Vacuous refl

pub returns-clause-set_short : goal.returns-clause-set_short
returns-clause-set_short c = store-run plain_right 6 (rested 9 9 1) Short refl

pub returns-clause-right : goal.returns-clause-right
returns-clause-right c = store-run plain_right 7 (called 9 9 0 9) Held refl

pub returns-clause-wrong : goal.returns-clause-wrong
returns-clause-wrong c = store-run plain_right 7 (called 9 9 1 3) Held refl

pub returns-clause-check_vacuous : goal.returns-clause-check_vacuous
returns-clause-check_vacuous c = store-run plain_right 7 (called 9 3 0 9) Vacuous refl

pub returns-clause-check_short : goal.returns-clause-check_short
returns-clause-check_short c = store-run plain_right 7 (bits 4 9 ∷ bits 4 9 ∷ bits 1 0 ∷ bits 5 9 ∷ []) Short refl

pub returns-clause-leak : goal.returns-clause-leak
returns-clause-leak c = leak-run plain_right 7 (called 8 8 0 3) (Failed 10) refl

pub returns-clause-leak_odd : goal.returns-clause-leak_odd
returns-clause-leak_odd c = leak-run plain_right 7 (called 9 9 0 3) Held refl
