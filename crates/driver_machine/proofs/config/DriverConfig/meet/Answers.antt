use Rattle.std.proofs.Common.{◌≡◌, List, sym, ap, ◌∙◌, arith}
use Rattle.std.proofs.lemmas.Grind.{common_steps}
use Rattle.knox_lang.specs.declared.expr.Stmt.{Stmt}
use Rattle.knox_lang.specs.declared.parts.Fun.{Fun}
use Rattle.driver_machine.specs.declared.position.Position.{Position}
use Rattle.driver_machine.specs.Sight.{setting}
use Rattle.driver_machine.specs.Drive.{stmts_of}
use Rattle.driver_machine.specs.Left.{next_tests}
use Rattle.driver_machine.specs.Place.{items_left}
use Rattle.driver_machine.specs.Begins.{run_in}
use Rattle.driver_machine.specs.Configs.{body_of}
use Rattle.driver_machine.proofs.Steps.{open-tests}
use Rattle.driver_machine.proofs.config.DriverConfig.meet.Goals as goal

pub returns-clause-tests : goal.returns-clause-tests
returns-clause-tests c =
    let d = c.args.d.now in
    let m = c.args.self.now in
    let lines = c.args.c.now.lines in
    let run = run_in m.scene in
    let stmts : List Stmt = stmts_of (body_of d m) in
    let funs : c.as_slice-funs.result.now ≡ d.funs = grind (arith, common_steps) in
    let body : c.body_stmts.result.now ≡ stmts = grind (arith, common_steps) in
    let at : c.in_ok-position.position ≡ m.position = grind (arith, common_steps) in
    c.in_ok-met.ensures.tests
    ∙ (ap (λ (f : List Fun). next_tests (setting lines f m.scene.args) (items_left c.body_stmts.result.now c.in_ok-position.position) run) funs
    ∙ (ap (λ (b : List Stmt). next_tests (setting lines d.funs m.scene.args) (items_left b c.in_ok-position.position) run) body
    ∙ (ap (λ (p : Position). next_tests (setting lines d.funs m.scene.args) (items_left stmts p) run) at
    ∙ sym (open-tests lines d m c.requires))))
