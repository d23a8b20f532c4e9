use Rattle.std.proofs.Common.{◌≡◌, length, arith}
use Rattle.sat_core.proofs.answering.conclude.Goals as goal

pub refute_from-requires-clause-few : goal.refute_from-requires-clause-few
refute_from-requires-clause-few c =
    let same : c.args.search.now.stored.len ≡ length c.args.search.now.stored.items = c.args.search.now.stored.ok.0 in
    let bound = c.args.search.now.stored.ok.1 in
    let small = c.args.search.now.stored.small in
    omega (arith, same, bound, small)

pub learn_from-requires-clause-few : goal.learn_from-requires-clause-few
learn_from-requires-clause-few c =
    let same : c.args.search.now.stored.len ≡ length c.args.search.now.stored.items = c.args.search.now.stored.ok.0 in
    let bound = c.args.search.now.stored.ok.1 in
    let small = c.args.search.now.stored.small in
    omega (arith, same, bound, small)
