use Rattle.script_core.proofs.Reaching.{taking-done}
use Rattle.script_core.proofs.run.take_words.Goals as goal

pub returns : goal.returns
returns c = taking-done _ _ _ _ _ c.loop-width.invariant c.in_default.ensures.cases
