use Rattle.std.proofs.Common.{◌∙◌, subst}
use Rattle.driver_machine.specs.declared.settle.Stand.{Stand}
use Rattle.driver_machine.specs.declared.settle.Stand.TheVariants as stand
use Rattle.driver_machine.specs.Sight.{setting}
use Rattle.driver_machine.specs.Stand.{Settles}
use Rattle.driver_machine.specs.Begins.{run_in}
use Rattle.driver_machine.proofs.Meeting.{statement-tests}
use Rattle.driver_machine.proofs.met.next_test.Goals as goal

pub returns-in_ok-met-in-Statement-clause-tests : goal.returns-in_ok-met-in-Statement-clause-tests
returns-in_ok-met-in-Statement-clause-tests c =
    let body = c.args.body.now in
    let p = c.args.pos.now in
    let p' = c.settle.new.pos in
    let s : Settles body p p' stand.Statement = subst (λ (x : Stand). Settles body p p' x) c.in-Statement.is c.in_ok-settle.ensures in
    c.in_ok-met-in-Statement.ensures.tests ∙ statement-tests (setting c.args.c.now.lines c.args.funs.now c.args.scene.now.args) body (run_in c.args.scene.now) p p' s.0 s.1
