use Rattle.std.proofs.Common.{◌≡◌, length}
use Rattle.knox_text.specs.Tokens.{tokens}
use Rattle.proof_text.specs.Lrat.{numbers, hint_at}
use Rattle.proof_text.proofs.LratLemmas.{front}
use Rattle.proof_text.proofs.lrat.read_hints.Given as goal

-- what was read, and what is left, give what all gives
abbrev pub invariant-loop-cut : goal.invariant-loop-cut
invariant-loop-cut l =
    numbers hint_at l.line.number l.line.width (tokens l.text) ≡ front l.hints (numbers hint_at l.line.number l.line.width (tokens l.rest))

abbrev pub decreases-loop-cut : goal.decreases-loop-cut
decreases-loop-cut l = length l.rest
