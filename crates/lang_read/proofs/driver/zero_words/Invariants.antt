use Rattle.std.proofs.Common.{◌≡◌, take}
use Rattle.lang_read.specs.Drivers.{zero_words}
use Rattle.lang_read.proofs.driver.zero_words.Given as goal

abbrev pub invariant-loop-input : goal.invariant-loop-input
invariant-loop-input l = l.idle ≡ zero_words (take l.input-index l.inputs)
