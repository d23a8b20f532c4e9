use Rattle.std.proofs.Common.{subst, [], Option, None}
use Rattle.knox_theory.proofs.Searching.{searched}
use Rattle.script_core.specs.declared.parts.HintNo.{HintNo}
use Rattle.script_core.specs.Decisions.{Finds}
use Rattle.script_core.proofs.decide.plain_of.Goals as goal

pub returns-in-Some : goal.returns-in-Some
returns-in-Some c t found = subst (λ (o : Option HintNo). Finds t [] [] c.args.words o) c.in-Some.is found

pub returns-in-None : goal.returns-in-None
returns-in-None c t found =
    let none : Finds t [] [] c.args.words None = subst (λ (o : Option HintNo). Finds t [] [] c.args.words o) c.in-None.is found in
    searched t none.0
