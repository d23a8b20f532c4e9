use Rattle.lang_read.proofs.NotMissingDriver.{exact}
use Rattle.lang_read.proofs.laws.missing_is_a_call.Goals as goal

pub returns : goal.returns
returns c d s end at ts = exact d s end at ts
