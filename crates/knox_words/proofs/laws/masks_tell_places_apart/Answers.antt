use Rattle.knox_words.proofs.PickLemmas.{pick-merge, length-merge, fit-pick, fit-merge}
use Rattle.knox_words.proofs.laws.masks_tell_places_apart.Goals as goal

pub returns : goal.returns
returns c = record { found = pick-merge; length = length-merge; picked = fit-pick; merged = fit-merge }
