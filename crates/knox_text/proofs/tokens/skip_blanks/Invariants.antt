use Rattle.std.proofs.Common.{◌≡◌, length}
use Rattle.knox_text.specs.Pieces.{skipped}
use Rattle.knox_text.proofs.tokens.skip_blanks.Given as goal

abbrev pub invariant-loop-rest : goal.invariant-loop-rest
invariant-loop-rest l = skipped l.rest ≡ skipped l.line

abbrev pub decreases-loop-rest : goal.decreases-loop-rest
decreases-loop-rest l = length l.rest
