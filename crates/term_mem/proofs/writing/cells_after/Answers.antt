use Rattle.std.proofs.Common.{◌≡◌, ◌<◌, length, get_or, refl, arith, ◌∙◌}
use Rattle.std.proofs.lemmas.Grind.{get_or_default_zero}
use Rattle.std.proofs.lemmas.List.Elements.{All-get_or}
use Rattle.term_graph.specs.Value.{width_of}
use Rattle.term_graph.proofs.FoldLemmas.{keeps-on}
use Rattle.term_mem.specs.Memories.{IsCell}
use Rattle.term_mem.proofs.CellLemmas.{cell-kept}
use Rattle.term_mem.proofs.WriteLemmas.{is-cell_after, cells-more, written-more, written-all}
use Rattle.term_mem.proofs.writing.cells_after.Goals as goal

pub returns-in_err-push-clause-kept : goal.returns-in_err-push-clause-kept
returns-in_err-push-clause-kept c = keeps-on c.args.g.now c.loop-number.g c.cell_after.new.g c.loop-number.invariant.kept c.cell_after.ensures.kept

pub loop-number-preserved : goal.loop-number-preserved
loop-number-preserved c =
    let w = width_of c.args.g.now c.args.word in
    let below : c.loop-number.number < length c.args.cells.now = omega arith in
    let cell : c.index-cells-number.result ≡ get_or c.args.cells.now c.loop-number.number 0 = c.index-cells-number.is ∙ get_or_default_zero c.args.cells.now c.loop-number.number c.index-cells-number.result below in
    let old = All-get_or (IsCell c.args.g.now w) c.args.cells.now c.loop-number.number 0 below c.requires.memory.alike in
    let mid = cell-kept c.args.g.now c.loop-number.g w (get_or c.args.cells.now c.loop-number.number 0) c.loop-number.invariant.kept old in
    let value = rw cell at c.in_ok-cell_after.ensures.value in
    let is = is-cell_after c.args.g.now c.loop-number.g c.cell_after.new.g c.args.index c.args.word (get_or c.args.cells.now c.loop-number.number 0) c.loop-number.number c.in_ok-cell_after.field-0 w c.loop-number.invariant.kept c.requires.index c.requires.word mid refl value in
    record {
      kept = keeps-on c.args.g.now c.loop-number.g c.cell_after.new.g c.loop-number.invariant.kept c.cell_after.ensures.kept;
      cells = cells-more c.cell_after.new.g c.loop-number.g w c.in_ok-cell_after.field-0 c.loop-number.made.items c.push.new.self.items c.cell_after.ensures.kept c.loop-number.invariant.cells is c.in_ok-push.ensures.items;
      written = λ v. written-more v c.args.g.now c.loop-number.g c.cell_after.new.g c.args.index c.args.word c.loop-number.number c.in_ok-cell_after.field-0 w c.args.cells.now c.loop-number.made.items c.push.new.self.items c.loop-number.invariant.kept c.cell_after.ensures.kept c.requires.memory.alike c.requires.index c.requires.word below c.loop-number.invariant.cells (c.loop-number.invariant.written v) value c.in_ok-push.ensures.items;
    }

pub returns-clause-written : goal.returns-clause-written
returns-clause-written c = λ v. c.loop-number.invariant.written v ∙ written-all v c.args.g.now c.args.index c.args.word c.loop-number.number c.args.cells.now (omega arith)
