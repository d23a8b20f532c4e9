use Rattle.device_design.proofs.AskingLemmas.{tick-asks-fit}
use Rattle.device_design.proofs.laws.queries_are_of_operations.Goals as goal

pub returns : goal.returns
returns c circuit s d p emu ins spec ok alone same f g = tick-asks-fit circuit s d p emu ins spec ok alone same f g
