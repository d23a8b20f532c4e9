use Rattle.std.proofs.Common.{◌∙◌, sym}
use Rattle.driver_machine.specs.Configs.{config_of}
use Rattle.driver_machine.specs.Means.{means}
use Rattle.driver_machine.proofs.Ending.{last-step, more-steps}
use Rattle.driver_machine.proofs.whole.run.Goals as goal

pub loop-reply-preserved-in-Ran : goal.loop-reply-preserved-in-Ran
loop-reply-preserved-in-Ran c =
    let d = c.args.d.now in
    let whole = means c.args.c.now.lines d (config_of d c.args.config.now) in
    record {
      means = more-steps c.args.c.now.lines d (config_of d c.loop-reply.config) (config_of d c.step.new.self) whole c.in_ok-step.ensures.config c.loop-reply.invariant.means;
      count = c.step.ensures.count;
    }

pub loop-reply-preserved : goal.loop-reply-preserved
loop-reply-preserved c =
    let d = c.args.d.now in
    let whole = means c.args.c.now.lines d (config_of d c.args.config.now) in
    record {
      means = more-steps c.args.c.now.lines d (config_of d c.loop-reply.config) (config_of d c.step.new.self) whole c.in_ok-step.ensures.config c.loop-reply.invariant.means;
      count = c.step.ensures.count;
    }

pub returns-in-Done-clause-reply : goal.returns-in-Done-clause-reply
returns-in-Done-clause-reply c =
    let d = c.args.d.now in
    let whole = means c.args.c.now.lines d (config_of d c.args.config.now) in
    (last-step c.args.c.now.lines d (config_of d c.loop-reply.config) (config_of d c.step.new.self) c.in-Done.reply whole (sym c.in-Done.is ∙ c.in_ok-step.ensures.moved) c.in_ok-step.ensures.config c.loop-reply.invariant.means).0

pub returns-in-Done-clause-cells : goal.returns-in-Done-clause-cells
returns-in-Done-clause-cells c =
    let d = c.args.d.now in
    let whole = means c.args.c.now.lines d (config_of d c.args.config.now) in
    (last-step c.args.c.now.lines d (config_of d c.loop-reply.config) (config_of d c.step.new.self) c.in-Done.reply whole (sym c.in-Done.is ∙ c.in_ok-step.ensures.moved) c.in_ok-step.ensures.config c.loop-reply.invariant.means).1
