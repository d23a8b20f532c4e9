use Rattle.std.proofs.Common.{[], sym, ◌∙◌, ap}
use Rattle.std.proofs.lemmas.Bool.{true≢false}
use Rattle.lrat_check.proofs.PlaceLemmas.{later_by, place_of-formula, place_of-lemmas}
use Rattle.lrat_check.proofs.places.place.Goals as goal

pub returns-then-names_formula : goal.returns-then-names_formula
returns-then-names_formula c =
    let inside = c.names_formula.ensures.0 c.if-names_formula.true in
    sym (place_of-formula c.args.formula c.args.id c.args.ids.now [] inside.0 inside.1)

pub returns-in-Some : goal.returns-in-Some
returns-in-Some c =
    sym (place_of-lemmas c.args.formula c.args.id c.args.ids.now [] (λ low high. true≢false (sym (c.names_formula.ensures.1 (low, high)) ∙ c.if-names_formula.false))
    ∙ ap (later_by c.args.formula) (sym c.in-Some.ensures.value))

pub returns-in-None : goal.returns-in-None
returns-in-None c =
    sym (place_of-lemmas c.args.formula c.args.id c.args.ids.now [] (λ low high. true≢false (sym (c.names_formula.ensures.1 (low, high)) ∙ c.if-names_formula.false))
    ∙ ap (later_by c.args.formula) (sym c.in-None.ensures.value))
