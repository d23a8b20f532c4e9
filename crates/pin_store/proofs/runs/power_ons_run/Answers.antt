use Rattle.std.proofs.Common.{refl, ◌∷◌, []}
use Rattle.knox_words.specs.Bits.{bits}
use Rattle.knox_theory.specs.Course.{Held, Vacuous, Failed, Short}
use Rattle.pin_store.specs.Hinted.{powered}
use Rattle.pin_store.proofs.Hinting.{plain_right, showing}
use Rattle.pin_store.proofs.Running.{leak-run, store-run}
use Rattle.pin_store.proofs.runs.power_ons_run.Goals as goal

pub returns-clause-held : goal.returns-clause-held
returns-clause-held c = store-run plain_right 0 (powered 9 9) Held refl

pub returns-clause-vacuous : goal.returns-clause-vacuous
returns-clause-vacuous c = store-run plain_right 0 (powered 9 3) Vacuous refl

pub returns-clause-missing : goal.returns-clause-missing
returns-clause-missing c = store-run plain_right 0 (bits 4 9 ∷ []) Short refl

pub returns-clause-wide : goal.returns-clause-wide
returns-clause-wide c = store-run plain_right 0 (bits 4 9 ∷ bits 5 9 ∷ []) Short refl

pub returns-clause-leak : goal.returns-clause-leak
returns-clause-leak c = leak-run plain_right 0 (powered 9 9) Held refl

pub returns-clause-failed : goal.returns-clause-failed
returns-clause-failed c = store-run (record plain_right { cut = showing 1 }) 0 (powered 9 9) (Failed 2) refl
