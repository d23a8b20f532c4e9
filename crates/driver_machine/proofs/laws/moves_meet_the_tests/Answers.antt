use Rattle.driver_machine.proofs.Tested.{finish-all}
use Rattle.driver_machine.proofs.laws.moves_meet_the_tests.Goals as goal

pub returns : goal.returns
returns c g has x = finish-all c.args.c.now.lines c.args.d.now g has x
