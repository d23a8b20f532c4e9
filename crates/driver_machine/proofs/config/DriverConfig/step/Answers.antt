use Rattle.driver_machine.specs.Configs.{config_of}
use Rattle.driver_machine.proofs.Ending.{parts-from}
use Rattle.driver_machine.proofs.config.DriverConfig.step.Goals as goal

pub returns-clause-fewer : goal.returns-clause-fewer
returns-clause-fewer c =
    let d = c.args.d.now in
    parts-from c.args.c.now.lines d (config_of d c.args.self.now) (config_of d c.advance.new.self) c.in_ok-moved.moved c.in_ok-moved.ensures.moved c.in_ok-moved.ensures.config
