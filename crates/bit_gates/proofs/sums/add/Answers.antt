use Rattle.bit_gates.proofs.GrowthLemmas.{grows-on}
use Rattle.bit_gates.proofs.SumLemmas.{adds-step}
use Rattle.bit_gates.proofs.sums.add.Goals as goal

pub loop-i-preserved : goal.loop-i-preserved
loop-i-preserved c = record {
  grows = grows-on _ _ _ c.loop-i.invariant.grows c.full_add.ensures.grows;
  adds = adds-step c.args.gates.now c.loop-i.gates c.full_add.new.gates c.args.a.now c.args.b.now c.args.start c.loop-i.carry c.in_ok-sum.sum c.in_ok-sum.next c.signal-x.result c.signal-y.result c.loop-i.i c.loop-i.out.items c.push.new.self.items
      c.loop-i.invariant.grows c.full_add.ensures.grows c.loop-i.invariant.adds c.signal-x.ensures c.signal-y.ensures c.requires.a c.requires.b c.in_ok-sum.ensures.sum c.in_ok-sum.ensures.carry c.in_ok-push.ensures.items;
}
