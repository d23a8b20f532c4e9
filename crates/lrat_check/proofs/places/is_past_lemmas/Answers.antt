use Rattle.lrat_check.proofs.PlaceLemmas.{above-last}
use Rattle.lrat_check.proofs.places.is_past_lemmas.Goals as goal

pub returns-in-Some : goal.returns-in-Some
returns-in-Some c =
    above-last c.args.ids.now c.in-Some.field-0-1.now c.in-Some.last.now c.args.id c.in-Some.ensures.cases.0 c.requires
