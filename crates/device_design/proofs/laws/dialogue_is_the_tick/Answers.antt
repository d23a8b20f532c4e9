use Rattle.device_design.proofs.DialogueLemmas.{dialogue-is-tick, asks-the-tick}
use Rattle.device_design.proofs.laws.dialogue_is_the_tick.Goals as goal

pub returns-clause-dialogue : goal.returns-clause-dialogue
returns-clause-dialogue c circuit s d p fields emu ins = dialogue-is-tick circuit s d p fields emu ins

pub returns-clause-asked : goal.returns-clause-asked
returns-clause-asked c circuit s d p emu copy ins = asks-the-tick circuit s d p emu copy ins
