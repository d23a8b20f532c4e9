use Rattle.std.proofs.Common.{ap, sym, ◌∙◌}
use Rattle.circuit_table.specs.Rows.{rows_of, added}
use Rattle.knox_circuit.specs.Circuit.{Circuit}
use Rattle.knox_circuit.proofs.RowsLemmas.{last-is, pushed-rows, pushed-added}
use Rattle.knox_circuit.proofs.draft.Draft.add.Goals as goal

pub invariant_of-self-in-Ok : goal.invariant_of-self-in-Ok
invariant_of-self-in-Ok c =
    pushed-rows c.self.inside.lines c.push.new.self c.args.line c.index-as_slice-at.result c.self.inside.table c.add.new.self c.self.invariant c.in_ok-push.ensures.ok
    (last-is c.self.inside.lines c.as_slice.result.now c.push.new.self c.args.line c.index-as_slice-at.result c.len-at.result c.in_ok-push.ensures.ok c.as_slice.ensures c.len-at.ensures c.index-as_slice-at.is)
    c.in-Ok.ensures.ok

pub returns-in-Ok-clause-accepted : goal.returns-in-Ok-clause-accepted
returns-in-Ok-clause-accepted c =
    sym (ap (λ (x : Circuit). added (rows_of x.lines) c.args.line) c.self.view_is)
    ∙ pushed-added c.self.inside.lines c.push.new.self c.args.line c.index-as_slice-at.result c.self.inside.table c.add.new.self c.self.invariant c.in_ok-push.ensures.ok
    (last-is c.self.inside.lines c.as_slice.result.now c.push.new.self c.args.line c.index-as_slice-at.result c.len-at.result c.in_ok-push.ensures.ok c.as_slice.ensures c.len-at.ensures c.index-as_slice-at.is)
    c.in-Ok.ensures.ok
