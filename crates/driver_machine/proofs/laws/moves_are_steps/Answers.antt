use Rattle.driver_machine.proofs.Moving.{is-move}
use Rattle.driver_machine.proofs.laws.moves_are_steps.Goals as goal

pub returns : goal.returns
returns c = is-move c.args.c.now.lines c.args.d.now
