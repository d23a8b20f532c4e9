use Rattle.std.proofs.Common.{◌≡◌, ◌-◌, [], slice_get, Some, sym, ◌∙◌, ap, arith, subst}
use Rattle.std.proofs.lemmas.Grind.{common_steps}
use Rattle.knox_lang.specs.declared.expr.Stmt.{out-Stmt}
use Rattle.driver_machine.specs.declared.position.Way.TheVariants as way
use Rattle.driver_machine.specs.declared.position.Position.{Position}
use Rattle.driver_machine.specs.Place.{items_left, top, entered, IsAtStatement}
use Rattle.driver_machine.proofs.Settling.{resumed, resumed-inside, follow-turn}
use Rattle.driver_machine.proofs.settle.resume.Goals as goal

pub returns-in-Turn : goal.returns-in-Turn
returns-in-Turn c =
    let body = c.args.body.now in
    let pos = c.args.pos.now in
    let s = c.in-Some.s.now in
    let v = way.Turn c.in-Turn.k in
    let at : slice_get (top body [] pos.frames).list (pos.place - 1) ≡ Some s = grind (arith, common_steps) in
    let e : c.enter.new.self ≡ entered pos v = grind (arith, common_steps) in
    let f = follow-turn c.args.way (out-Stmt s) (top body [] pos.frames).bound c.in-Turn.k (sym c.in-Turn.ensures) in (
      ap (items_left body) e ∙ resumed body pos c.args.way v s at f.0,
      subst (λ (p : Position). IsAtStatement body p) (sym e) (resumed-inside body pos v s at f.1),
    )
