use Rattle.std.proofs.Common.{◌≡◌, ◌∙◌, [], ap, map, sym}
use Rattle.knox_cnf.specs.Literals.{complement}
use Rattle.lrat_check.specs.Marks.{all_with_true}
use Rattle.lrat_check.specs.Derivations.{live_clause}
use Rattle.lrat_check.proofs.HintSteps.{check-tautology, check-hints}
use Rattle.lrat_check.proofs.checking.check.Goals as goal

pub returns-then-is_contradictory : goal.returns-then-is_contradictory
returns-then-is_contradictory c =
    let false_now : c.deny.new.marks ≡ all_with_true [] (map complement c.args.lits.now) = c.in-Ok.ensures.ok ∙ ap (λ t. all_with_true t (map complement c.args.lits.now)) c.requires in
    check-tautology (live_clause c.args.database.now) c.args.lits.now c.deny.new.marks c.args.hints.now false_now (sym c.if-is_contradictory.ensures)

pub returns : goal.returns
returns c =
    let false_now : c.deny.new.marks ≡ all_with_true [] (map complement c.args.lits.now) = c.in-Ok.ensures.ok ∙ ap (λ t. all_with_true t (map complement c.args.lits.now)) c.requires in
    check-hints (live_clause c.args.database.now) c.args.lits.now c.deny.new.marks c.args.hints.now c.take_hints.result false_now (sym c.if-is_contradictory.ensures) c.take_hints.ensures
