use Rattle.std.proofs.Common.{◌≡◌, ◌∙◌, ap, sym, drop, false, arith}
use Rattle.knox_text.specs.Pieces.{ends_line}
use Rattle.knox_text.proofs.LineLemmas.{slice-rest, line_more}
use Rattle.knox_text.proofs.lines.line_length.Goals as goal

pub loop-end-preserved : goal.loop-end-preserved
loop-end-preserved c =
    let stays : ends_line (drop c.loop-end.end c.args.text.now) ≡ false = sym (ap ends_line (slice-rest c.args.text.now c.loop-end.end)) ∙ (sym c.ends_line.ensures ∙ c.if-not-ends_line.true) in
    let more = line_more c.args.text.now c.loop-end.end c.loop-end-test.true stays in
    let whole = c.loop-end.invariant.whole in
    record { whole = omega (arith, more, whole); within = omega arith }
