use Rattle.std.proofs.Common.{◌≡◌, take}
use Rattle.std.specs.Prelude.{flat_map}
use Rattle.proof_text.specs.Printing.{line_shown}
use Rattle.proof_text.proofs.printing.print_lrat.Given as goal

abbrev pub invariant-loop-line : goal.invariant-loop-line
invariant-loop-line l = l.out ≡ flat_map line_shown (take l.line-index l.lines)
