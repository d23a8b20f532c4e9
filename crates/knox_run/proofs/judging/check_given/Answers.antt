use Rattle.std.proofs.Common.{[], arith, subst}
use Rattle.knox_run.specs.Reading.{Within}
use Rattle.knox_run.proofs.TextsLemmas.{two-texts}
use Rattle.knox_run.proofs.judging.check_given.Goals as goal

pub check_texts-requires : goal.check_texts-requires
check_texts-requires g c =
    let within = subst Within (two-texts _ c.args.first _ _ c.requires.two c.text-formula.ensures c.text-proof.ensures) c.requires.within in
    record { formula = within 0 [] (omega arith); proof = within 1 [] (omega arith) }

pub returns : goal.returns
returns g c =
    (c.text-formula.result.now, c.text-proof.result.now, two-texts _ c.args.first _ _ c.requires.two c.text-formula.ensures c.text-proof.ensures, c.check_texts.ensures)
