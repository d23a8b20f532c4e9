use Rattle.std.proofs.Common.{◌≡◌, length}
use Rattle.knox_text.specs.Tokens.{tokens}
use Rattle.proof_text.specs.Dimacs.{with_tokens}
use Rattle.proof_text.proofs.dimacs.take_tokens.Given as goal

-- the tokens that are left give what all give
abbrev pub invariant-loop-cut : goal.invariant-loop-cut
invariant-loop-cut l =
    with_tokens l.initial.draft l.line.number l.line.width (tokens l.text) ≡ with_tokens l.draft l.line.number l.line.width (tokens l.rest)

abbrev pub decreases-loop-cut : goal.decreases-loop-cut
decreases-loop-cut l = length l.rest
