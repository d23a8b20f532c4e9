use Rattle.std.proofs.Common.{◌++◌, ◌∙◌, ap, subst}
use Rattle.driver_machine.specs.declared.config.DriverConfig.{DriverConfig}
use Rattle.driver_machine.specs.declared.reply.Moved.{Moved}
use Rattle.driver_machine.specs.Begins.{listed}
use Rattle.driver_machine.specs.Configs.{config_of, LowersParts}
use Rattle.driver_machine.specs.Left.{step}
use Rattle.driver_machine.specs.Moves.{parts_left}
use Rattle.driver_machine.specs.Outcomes.{tests_left}
use Rattle.driver_machine.proofs.Tested.{more-tests, last-tests}
use Rattle.driver_machine.proofs.whole.meet_all.Goals as goal

pub loop-tests-preserved-in-Ran : goal.loop-tests-preserved-in-Ran
loop-tests-preserved-in-Ran c =
    let d = c.args.d.now in
    let lines = c.args.c.now.lines in
    let next = c.in_ok-step.ensures.config ∙ ap (λ (m : DriverConfig). step lines d (config_of d m)) c.in_ok-met.ensures.same in
    record {
      tests = ap (λ ts. ts ++ tests_left lines d (config_of d c.step.new.self)) c.in_ok-put_behind.ensures
          ∙ more-tests lines d (config_of d c.loop-tests.config) (config_of d c.step.new.self) c.loop-tests.tests (listed c.in_ok-met.met) _ c.in_ok-met.ensures.tests next c.loop-tests.invariant.tests;
      count = c.step.ensures.count;
    }

pub loop-tests-preserved : goal.loop-tests-preserved
loop-tests-preserved c =
    let d = c.args.d.now in
    let lines = c.args.c.now.lines in
    let next = c.in_ok-step.ensures.config ∙ ap (λ (m : DriverConfig). step lines d (config_of d m)) c.in_ok-met.ensures.same in
    record {
      tests = ap (λ ts. ts ++ tests_left lines d (config_of d c.step.new.self)) c.in_ok-put_behind.ensures
          ∙ more-tests lines d (config_of d c.loop-tests.config) (config_of d c.step.new.self) c.loop-tests.tests (listed c.in_ok-met.met) _ c.in_ok-met.ensures.tests next c.loop-tests.invariant.tests;
      count = c.step.ensures.count;
    }

pub returns-in-Done : goal.returns-in-Done
returns-in-Done c =
    let d = c.args.d.now in
    let lines = c.args.c.now.lines in
    let next = c.in_ok-step.ensures.config ∙ ap (λ (m : DriverConfig). step lines d (config_of d m)) c.in_ok-met.ensures.same in
    let none =
    subst (λ (r : Moved). LowersParts r (parts_left (config_of d c.next_test.new.self).left) (parts_left (config_of d c.step.new.self).left)) c.in-Done.is c.in_ok-step.ensures.fewer in
    c.in_ok-put_behind.ensures
    ∙ last-tests lines d (config_of d c.loop-tests.config) (config_of d c.step.new.self) c.loop-tests.tests (listed c.in_ok-met.met) _ c.in_ok-met.ensures.tests next none c.loop-tests.invariant.tests
