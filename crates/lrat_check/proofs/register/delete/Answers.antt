use Rattle.std.proofs.Common.{◌<◌, length, arith}
use Rattle.lrat_check.proofs.PlaceLemmas.{delete-step, back-step}
use Rattle.lrat_check.proofs.register.delete.Goals as goal

pub loop-at-preserved : goal.loop-at-preserved
loop-at-preserved c =
    let lt : c.loop-at.at < length c.args.gone.now = omega arith in
    record {
      told = delete-step c.args.formula c.args.ids.now c.args.live.now c.loop-at.live c.set_live.new.live c.args.gone.now c.loop-at.at c.in-Some.place lt c.set_live.ensures c.in-Some.ensures.value c.loop-at.invariant.told;
      back = back-step c.args.formula c.args.ids.now c.args.live.now c.loop-at.live c.set_live.new.live c.args.gone.now c.loop-at.at c.in-Some.place lt c.set_live.ensures c.in-Some.ensures.value c.loop-at.invariant.back;
    }
