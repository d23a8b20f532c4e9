use Rattle.std.proofs.Common.{◌≡◌, List, Bool, true, sym, subst, arith}
use Rattle.circuit_nodes.specs.Needs.{roots, is_needed}
use Rattle.circuit_nodes.proofs.LogicLemmas.{roots-held}
use Rattle.circuit_nodes.proofs.needs.mark_all.Goals as goal

pub returns : goal.returns
returns c =
    let places = roots c.args.args.now c.args.nexts.now in
    record {
      long = omega arith;
      closed = c.close.ensures.closed;
      held = roots-held c.args.nodes.now places c.args.needs.now c.close.new.needs c.requires
          (λ k h. c.close.ensures.grows k (subst (λ (z : List Bool). is_needed z k ≡ true) (sym c.mark_roots.ensures) h));
    }
