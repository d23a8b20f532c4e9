use Rattle.std.proofs.Common.{refl, ◌∷◌, []}
use Rattle.knox_words.specs.Bits.{bits}
use Rattle.knox_theory.specs.Course.{Held, Vacuous, Short}
use Rattle.pin_store.specs.Hinted.{powered, rested}
use Rattle.pin_store.proofs.Hinting.{plain_right}
use Rattle.pin_store.proofs.Running.{store-run}
use Rattle.pin_store.proofs.runs.host_states_run.Goals as goal

pub returns-clause-factory : goal.returns-clause-factory
returns-clause-factory c = store-run plain_right 2 [] Held refl

pub returns-clause-attached : goal.returns-clause-attached
returns-clause-attached c = store-run plain_right 3 (powered 9 9) Held refl

pub returns-clause-other_secret : goal.returns-clause-other_secret
returns-clause-other_secret c = store-run plain_right 3 (powered 9 3) Vacuous refl

pub returns-clause-no_secret : goal.returns-clause-no_secret
returns-clause-no_secret c = store-run plain_right 3 (bits 4 9 ∷ []) Short refl

pub returns-clause-rested : goal.returns-clause-rested
returns-clause-rested c = store-run plain_right 4 (rested 9 9 1) Held refl

pub returns-clause-not_idle : goal.returns-clause-not_idle
returns-clause-not_idle c = store-run plain_right 4 (rested 9 3 1) Vacuous refl

pub returns-clause-no_answer : goal.returns-clause-no_answer
returns-clause-no_answer c = store-run plain_right 4 (bits 4 9 ∷ bits 4 9 ∷ []) Short refl
