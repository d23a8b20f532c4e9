use Rattle.bit_gates.proofs.GrowthLemmas.{grows-on}
use Rattle.bit_gates.proofs.PairLemmas.{paired-step}
use Rattle.bit_gates.proofs.pairs.pairwise.Goals as goal

pub loop-i-preserved : goal.loop-i-preserved
loop-i-preserved c = record {
  grows = grows-on _ _ _ c.loop-i.invariant.grows c.pair_gate.ensures.grows;
  paired = paired-step c.args.gates.now c.loop-i.gates c.pair_gate.new.gates c.args.p c.args.a.now c.args.b.now c.in_ok-z.z c.signal-x.result c.signal-y.result c.loop-i.i c.loop-i.out.items c.push.new.self.items
      c.loop-i.invariant.grows c.pair_gate.ensures.grows c.loop-i.invariant.paired c.requires.p c.signal-x.ensures c.signal-y.ensures c.requires.a c.requires.b c.in_ok-z.ensures.value c.in_ok-push.ensures.items;
}
