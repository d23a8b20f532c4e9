use Rattle.std.proofs.Common.{None}
use Rattle.lrat_check.specs.Derivations.{live_clause}
use Rattle.lrat_check.specs.Marks.{index_of}
use Rattle.rat_check.specs.Groups.{parts_of}
use Rattle.rat_check.specs.Rat.{is_uncovered}
use Rattle.rat_check.specs.Occurrences.{list_at}
use Rattle.rat_check.proofs.CoveringLemmas.{least-then}
use Rattle.rat_check.proofs.RefutationLemmas.{first-left}
use Rattle.rat_check.proofs.covering.first_uncovered.Goals as goal

pub returns : goal.returns
returns c =
    let groups = (parts_of c.args.hints.now).groups in
    first-left c.args.database.now c.args.occurrences.now c.args.lit groups c.least_uncovered.result c.requires.rises c.requires.listed
    (least-then (is_uncovered (live_clause c.args.database.now) c.args.lit groups) None c.least_uncovered-found.result c.least_uncovered.result (list_at c.args.occurrences.now.near.items (index_of c.args.lit)) c.args.occurrences.now.far
    (rw c.near.ensures at c.least_uncovered-found.ensures) (rw c.far.ensures at c.least_uncovered.ensures))
