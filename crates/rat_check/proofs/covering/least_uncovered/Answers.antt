use Rattle.std.proofs.Common.{◌<◌, length, get_or, arith}
use Rattle.lrat_check.specs.Derivations.{live_clause}
use Rattle.rat_check.specs.Groups.{parts_of, PassesGroup}
use Rattle.rat_check.specs.Rat.{is_uncovered}
use Rattle.rat_check.proofs.GroupLemmas.{grouped-covered}
use Rattle.rat_check.proofs.CoveringLemmas.{least-same, least-more}
use Rattle.rat_check.proofs.covering.least_uncovered.Goals as goal
use Rattle.rat_check.proofs.covering.least_uncovered.Goals.{in-Some, in-None}

pub loop-id-preserved : goal.loop-id-preserved
loop-id-preserved c =
    let clause = live_clause c.args.database.now in
    let groups = (parts_of c.args.hints.now).groups in
    let p = is_uncovered clause c.args.lit groups in
    let ids = c.args.ids.now in
    let at = c.loop-id.id-index in
    let lt : at < length ids = omega arith in
    elim c.match-behind_group.branch [
      | in-Some w ↦ (let passed : PassesGroup c.loop-id.left.now (get_or ids at 0) w.in-Some.rest.now = w.in-Some.ensures in
          record {
            found = rw w.least-is (least-more p c.args.found c.loop-id.least c.loop-id.least ids at lt c.loop-id.invariant.found (least-same p c.loop-id.least (get_or ids at 0) (grouped-covered clause c.args.lit groups (get_or ids at 0) (c.loop-id.invariant.left (get_or ids at 0) passed.about))));
            left = λ i h. c.loop-id.invariant.left i (passed.others i (rw w.left-is at h));
          })
      | in-None w ↦ (record {
        found = rw w.least-is (least-more p c.args.found c.loop-id.least w.with_id-least.result ids at lt c.loop-id.invariant.found w.with_id-least.ensures);
        left = λ i h. c.loop-id.invariant.left i (rw w.left-is at h);
      })
    ]
