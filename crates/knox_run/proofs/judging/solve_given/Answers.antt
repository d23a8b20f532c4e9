use Rattle.std.proofs.Common.{[], arith, subst}
use Rattle.knox_run.specs.Reading.{Within}
use Rattle.knox_run.proofs.TextsLemmas.{one-text}
use Rattle.knox_run.proofs.judging.solve_given.Goals as goal

pub solve_text-requires : goal.solve_text-requires
solve_text-requires g c =
    let within = subst Within (one-text _ c.args.place _ c.requires.one c.text-formula.ensures) c.requires.within in
    record { formula = within 0 [] (omega arith); budget = c.requires.budget }

pub returns : goal.returns
returns g c = (c.text-formula.result.now, one-text _ c.args.place _ c.requires.one c.text-formula.ensures, c.solve_text.ensures)
