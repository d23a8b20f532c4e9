use Rattle.knox_words.proofs.Lists.{fit-append, length-fit, fit-zeros, same_words-true, same_words-refl}
use Rattle.knox_words.proofs.laws.words_fit_in_parts.Goals as goal

pub returns : goal.returns
returns c = record { parts = fit-append; length = length-fit; zeros = fit-zeros; equal = same_words-true; same = same_words-refl }
