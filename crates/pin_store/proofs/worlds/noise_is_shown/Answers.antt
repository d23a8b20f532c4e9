use Rattle.std.proofs.Common.{◌∷◌, [], refl}
use Rattle.knox_words.specs.Bits.{bits}
use Rattle.pin_store.specs.Events.{noisy, noisy_answers}
use Rattle.pin_store.proofs.Rows.{noisy-real, noisy-ideal}
use Rattle.pin_store.proofs.worlds.noise_is_shown.Goals as goal

pub returns-clause-zero : goal.returns-clause-zero
returns-clause-zero c = noisy-real 4 noisy noisy_answers (bits 1 0 ∷ []) refl

pub returns-clause-one : goal.returns-clause-one
returns-clause-one c = noisy-real 4 noisy noisy_answers (bits 1 1 ∷ []) refl

pub returns-clause-ideal : goal.returns-clause-ideal
returns-clause-ideal c = noisy-ideal 4 noisy noisy_answers refl
