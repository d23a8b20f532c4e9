use Rattle.std.proofs.Common.{◌≡◌, ◌∙◌, ◌-◌, [], length, ap, map, sym, subst, take, drop, Err, Ok}
use Rattle.std.proofs.lemmas.List.{take_rest}
use Rattle.knox_cnf.specs.Literals.{complement}
use Rattle.lrat_check.specs.Register.{all_ids}
use Rattle.lrat_check.specs.Marks.{all_with_true}
use Rattle.lrat_check.specs.Hints.{after_hints, Takes}
use Rattle.lrat_check.specs.Derivations.{entries_of, live_clause}
use Rattle.rat_check.specs.Groups.{parts_of}
use Rattle.rat_check.specs.Rat.{told, check, Answers}
use Rattle.rat_check.proofs.RatLemmas.{check-tautology, check-lead, walk-Err, walk-false}
use Rattle.rat_check.proofs.checking.check.Goals as goal

pub returns-then-is_contradictory : goal.returns-then-is_contradictory
returns-then-is_contradictory c =
    let clause = live_clause c.args.database.now in
    let false_now : c.deny.new.marks ≡ all_with_true [] (map complement c.args.lits.now) = c.in-Ok.ensures.ok ∙ ap (λ t. all_with_true t (map complement c.args.lits.now)) c.requires.marks in
    check-tautology clause (all_ids (entries_of c.args.database.now)) c.args.lits.now c.deny.new.marks c.args.hints.now false_now (sym c.if-is_contradictory.ensures)

pub returns-in-Err-walk_hints : goal.returns-in-Err-walk_hints
returns-in-Err-walk_hints c =
    let clause = live_clause c.args.database.now in
    let ids = all_ids (entries_of c.args.database.now) in
    let false_now : c.deny.new.marks ≡ all_with_true [] (map complement c.args.lits.now) = c.in-Ok.ensures.ok ∙ ap (λ t. all_with_true t (map complement c.args.lits.now)) c.requires.marks in
    let lead = take c.lead_len-lead.result c.args.hints.now in
    let rest = drop c.lead_len-lead.result c.args.hints.now in
    subst (λ s. Answers (Err s) (check clause ids c.args.lits.now c.args.hints.now)) (sym c.told-in-Err-walk_hints.ensures)
    (check-lead clause ids c.args.lits.now c.deny.new.marks c.args.hints.now lead rest (Err (told c.in-Err-walk_hints.step)) false_now (sym c.if-is_contradictory.ensures) c.lead_len-lead.ensures.lead c.lead_len-lead.ensures.groups
    (walk-Err clause ids c.args.lits.now (parts_of rest).groups (after_hints clause c.deny.new.marks lead) c.in-Err-walk_hints.step c.walk_hints.new.marks c.in-Err-walk_hints.ensures.takes))

pub returns : goal.returns
returns c =
    let clause = live_clause c.args.database.now in
    let ids = all_ids (entries_of c.args.database.now) in
    let false_now : c.deny.new.marks ≡ all_with_true [] (map complement c.args.lits.now) = c.in-Ok.ensures.ok ∙ ap (λ t. all_with_true t (map complement c.args.lits.now)) c.requires.marks in
    let lead = take c.lead_len-lead.result c.args.hints.now in
    let rest = take (length c.args.hints.now - c.lead_len-lead.result) (drop c.lead_len-lead.result c.args.hints.now) in
    let all_rest : rest ≡ drop c.lead_len-lead.result c.args.hints.now = take_rest c.args.hints.now c.lead_len-lead.result in
    check-lead clause ids c.args.lits.now c.deny.new.marks c.args.hints.now lead rest c.check_by_pivot.result false_now (sym c.if-is_contradictory.ensures) c.lead_len-lead.ensures.lead (c.lead_len-lead.ensures.groups ∙ ap (λ r. (parts_of r).groups) (sym all_rest))
    (walk-false clause ids c.args.lits.now (parts_of rest).groups (after_hints clause c.deny.new.marks lead) c.walk_hints.new.marks
    (subst (λ r. Takes (after_hints clause c.deny.new.marks lead) r c.walk_hints.new.marks) (c.in-Ok-false.is ∙ ap (λ b. Ok b) c.in-Ok-false.field-0-test) c.walk_hints.ensures.takes)
    c.check_by_pivot.result c.check_by_pivot.ensures)
