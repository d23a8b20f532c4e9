use Rattle.std.proofs.Common.{◌≡◌, vec_len}
use Rattle.driver_machine.proofs.scene.zero_words.Given as goal

abbrev pub invariant-loop-k : goal.invariant-loop-k
invariant-loop-k l = vec_len l.words ≡ l.k
