use Rattle.std.proofs.Common.{◌≡◌, ◌∙◌, ap, sym, subst, Bool, IfOk}
use Rattle.script_core.specs.Reached.{here}
use Rattle.script_core.specs.Rooms.{state_in}
use Rattle.script_core.proofs.Walking.{named_holds, passes-named}
use Rattle.script_core.proofs.room.Room.passes.Goals as goal

pub returns-in-Some-clause-value : goal.returns-in-Some-clause-value
returns-in-Some-clause-value c =
    let v = c.args.dev.now in
    let st = state_in c.args.self.now in
    subst (λ (z : Bool). IfOk c.holds.result (λ (b : Bool). b ≡ z))
    (sym (passes-named v c.args.sc.now c.args.target.0 (here st) ∙ ap (λ o. named_holds v.spec.funs o st) c.in-Some.ensures))
    c.holds.ensures.value

pub returns-in-None-clause-value : goal.returns-in-None-clause-value
returns-in-None-clause-value c =
    let v = c.args.dev.now in
    let st = state_in c.args.self.now in
    sym (passes-named v c.args.sc.now c.args.target.0 (here st) ∙ ap (λ o. named_holds v.spec.funs o st) c.in-None.ensures)
