use Rattle.std.proofs.Common.{◌≡◌, ◌≤◌, ◌+◌, ◌-◌, List, Bool, true, length, sym, subst, arith}
use Rattle.circuit_nodes.specs.Needs.{operands, is_needed, AreClosedFrom}
use Rattle.circuit_nodes.proofs.LogicLemmas.{close-more, close-grows}
use Rattle.circuit_nodes.proofs.needs.close.Goals as goal

pub loop-left-preserved-then-needs-left : goal.loop-left-preserved-then-needs-left
loop-left-preserved-then-needs-left c =
    let i = c.loop-left.left - 1 in
    let up : c.loop-left.left ≡ i + 1 = omega arith in
    let closed = subst (AreClosedFrom c.loop-left.needs c.args.nodes.now) up c.loop-left.invariant.closed in
    let within : i ≤ length c.loop-left.needs = omega arith in
    let made = close-more c.loop-left.needs c.args.nodes.now i c.node_at.result.now c.node_at.ensures within closed in
    record {
      within = omega arith;
      closed = subst (λ (z : List Bool). AreClosedFrom z c.args.nodes.now i) (sym c.mark_operands.ensures) made;
      grows = λ k h. subst (λ (z : List Bool). is_needed z k ≡ true) (sym c.mark_operands.ensures)
          (close-grows c.loop-left.needs i (operands c.node_at.result.now) k (c.loop-left.invariant.grows k h));
    }
