use Rattle.knox_words.proofs.Covering.{number-below, decoded-number, fit-decoded, number-decoded, decoded-zero}
use Rattle.knox_words.proofs.laws.words_are_numbered.Goals as goal

pub returns : goal.returns
returns c = record { below = number-below; covered = decoded-number; fitting = fit-decoded; apart = number-decoded; first = decoded-zero }
