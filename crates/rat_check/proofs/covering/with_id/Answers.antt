use Rattle.std.proofs.Common.{sym}
use Rattle.lrat_check.specs.Derivations.{live_clause}
use Rattle.rat_check.specs.Groups.{parts_of}
use Rattle.rat_check.specs.Rat.{is_uncovered}
use Rattle.rat_check.proofs.CoveringLemmas.{least-same, least-new}
use Rattle.rat_check.proofs.covering.with_id.Goals as goal

pub returns-then-is_uncovered : goal.returns-then-is_uncovered
returns-then-is_uncovered c =
    least-new (is_uncovered (live_clause c.args.database.now) c.args.lit (parts_of c.args.hints.now).groups) c.args.found c.args.id c.lesser.result
    (sym c.if-is_uncovered.ensures) c.lesser.ensures.new c.lesser.ensures.old c.lesser.ensures.one

pub returns-else-is_uncovered : goal.returns-else-is_uncovered
returns-else-is_uncovered c =
    least-same (is_uncovered (live_clause c.args.database.now) c.args.lit (parts_of c.args.hints.now).groups) c.args.found c.args.id (sym c.if-is_uncovered.ensures)
