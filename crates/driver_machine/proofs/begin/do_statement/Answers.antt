use Rattle.std.proofs.Common.{◌≡◌, [], slice_get, Some, arith, subst}
use Rattle.std.proofs.lemmas.Grind.{common_steps}
use Rattle.knox_words.specs.Lists.{Words}
use Rattle.knox_lang.specs.declared.expr.Stmt.{out-Stmt}
use Rattle.driver_machine.specs.Sight.{setting}
use Rattle.driver_machine.specs.Place.{top}
use Rattle.driver_machine.specs.Begins.{Begins, doing, run_in}
use Rattle.driver_machine.proofs.Arms.{begins-moves}
use Rattle.driver_machine.proofs.begin.do_statement.Goals as goal

pub returns-clause-done : goal.returns-clause-done
returns-clause-done c =
    let body = c.args.body.now in
    let pos = c.args.pos.now in
    let s = c.in-Some.s.now in
    let g = setting c.args.c.now.lines c.args.funs.now c.args.scene.now.args in
    let x = doing pos (run_in c.args.scene.now) c.begin.new.pos (run_in c.begin.new.scene) in
    let r = c.in_ok-part-in-Some.part in
    let at : slice_get (top body [] pos.frames).list pos.place ≡ Some s = grind (arith, common_steps) in
    let e : c.current.new.bound ≡ (top body [] pos.frames).bound = grind (arith, common_steps) in
    let b : Begins g (top body [] pos.frames).bound (out-Stmt s) x r =
    subst (λ (ws : Words). Begins g ws (out-Stmt s) x r) e c.in_ok-part-in-Some.ensures.done in
    begins-moves g body x r s at b
