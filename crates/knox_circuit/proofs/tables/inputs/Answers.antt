use Rattle.std.proofs.Common.{rules, ◌≡◌, ◌++◌, [], ◌∷◌, List, sym, ap, ◌∙◌}
use Rattle.circuit_nodes.specs.declared.node.Row.{Row}
use Rattle.circuit_table.specs.declared.line.Line.{Line}
use Rattle.knox_circuit.specs.declared.port.Role.TheVariants as role
use Rattle.knox_circuit.specs.Ports.{input_port, inputs_among}
use Rattle.knox_circuit.proofs.NamesLemmas.{known-more}
use Rattle.knox_circuit.proofs.TablesLemmas.{joined}
use Rattle.knox_circuit.proofs.tables.inputs.Goals as goal

pub loop-line-preserved : goal.loop-line-preserved
loop-line-preserved c =
    let before = c.loop-line.invariant.0 in
    let line = c.in-Some.line.now in
    let row = c.in-Some-split_first.row.now in
    let more = c.in-Some.more.now in
    let others = c.in-Some-split_first.others.now in
    let lines : c.loop-line.left.now ≡ line ∷ more = search rules in
    let rows : c.loop-line.rest.now ≡ row ∷ others = search rules in
    let start = ap (λ (z : List Line). c.loop-line.ports ++ inputs_among before z c.loop-line.rest.now) lines ∙ ap (λ (z : List Row). c.loop-line.ports ++ inputs_among before (line ∷ more) z) rows in (
      line ∷ before,
      known-more role.Input before line c.loop-line.names c.note.new.self c.loop-line.invariant.1 c.in_ok-note.ensures,
      joined c.loop-line.ports c.add_input.new.ports (input_port before line row.kind) (inputs_among (line ∷ before) more others) (inputs_among [] c.args.lines.now c.args.rows.now)
          (c.in_ok-add_input.ensures before c.loop-line.invariant.1) (sym start ∙ c.loop-line.invariant.2),
    )
