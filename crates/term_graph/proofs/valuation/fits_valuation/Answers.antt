use Rattle.std.proofs.Common.{arith, length, refl, ◌+◌, ◌≤◌}
use Rattle.term_graph.proofs.ValueLemmas.{vars-within}
use Rattle.term_graph.proofs.valuation.fits_valuation.Goals as goal

pub loop-var-init : goal.loop-var-init
loop-var-init c =
    let le : 0 + length c.args.g.now ≤ length c.args.g.now = omega arith in
    (rw (c.vars-left.ensures, c.as_slice-others.ensures) refl, rw c.vars-left.ensures (vars-within 0 c.args.g.now (length c.args.g.now) le))
