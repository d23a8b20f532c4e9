use Rattle.std.proofs.Common.{subst, sym, slice_get, Some, ◌≡◌}
use Rattle.bit_gates.specs.declared.signal.Gate.{Gate}
use Rattle.bit_gates.proofs.SameLemmas.{gate-same}
use Rattle.bit_gates.proofs.gates.insert.Goals as goal

pub returns-clause-at : goal.returns-clause-at
returns-clause-at c =
    let s = c.in_ok-inserted.ensures.stored in
    subst (λ (g : Gate). slice_get c.insert_full.new.self.keys c.in_ok-inserted.inserted.0 ≡ Some g) (sym (gate-same c.args.gate s.0 s.2)) s.1
