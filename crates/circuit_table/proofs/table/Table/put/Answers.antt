use Rattle.std.proofs.Common.{◌≡◌, ◌+◌, ◌==◌, ℕ, List, Option, Some, length, if◌then◌else◌, sym, ap, subst, ◌∙◌, arith}
use Rattle.circuit_nodes.specs.declared.node.Row.{Row}
use Rattle.circuit_table.specs.Rows.{place_of, inputs_in, array_words, extended_by}
use Rattle.circuit_table.proofs.RowsLemmas.{place-more, length-inputs-more, words-more, length-more, inputs-few}
use Rattle.circuit_table.specs.Typed.{AreTyped}
use Rattle.circuit_table.proofs.table.Table.put.Goals as goal

pub overflow_add-inputs : goal.overflow_add-inputs
overflow_add-inputs c =
    let few = inputs-few c.self.inside.rows in
    omega (arith, few)

pub invariant_of-self-2 : goal.invariant_of-self-2
invariant_of-self-2 c =
    let rows = c.self.inside.rows in
    let d = c.args.resolved.now in
    let made = c.in_ok-put_row.ensures.rows in
    let inputs = length-inputs-more rows d in
    let words = words-more rows d in
    let typed : AreTyped (extended_by rows d) = subst (λ (z : List Row). AreTyped (extended_by z d)) (sym c.self.view_is) c.requires.typed in
    let now : length c.put_row.new.rows ≡ length rows + 1 = ap length made ∙ length-more rows d in (
      λ q. c.in_ok-put_row.ensures.places q
          ∙ (ap (λ (o : Option ℕ). if d.row.number == q then Some (length rows) else o) (c.self.invariant.0 q)
          ∙ sym (ap (λ (z : List Row). place_of z q) made ∙ place-more rows d q)),
      omega (arith, ap (λ (z : List Row). length (inputs_in z)) made, inputs),
      omega (arith, ap array_words made, words),
      omega (arith, c.requires.words, ap array_words c.self.view_is, c.self.invariant.2, c.row_words.ensures),
      omega (arith, c.requires.few, ap length c.self.view_is, now),
      subst AreTyped (sym made) typed,
    )

pub invariant_of-self : goal.invariant_of-self
invariant_of-self c =
    let same = c.in_err-put_row.ensures.err in (
      λ q. c.in_err-put_row.ensures.kept q ∙ (c.self.invariant.0 q ∙ sym (ap (λ (z : List Row). place_of z q) same)),
      omega (arith, ap (λ (z : List Row). length (inputs_in z)) same, c.self.invariant.1),
      omega (arith, ap array_words same, c.self.invariant.2),
      c.self.invariant.3,
      omega (arith, ap length same, c.self.invariant.4),
      subst AreTyped (sym same) c.self.invariant.5,
    )
