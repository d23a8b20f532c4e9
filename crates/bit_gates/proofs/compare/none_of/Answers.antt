use Rattle.std.proofs.Common.{subst, ◌&&◌}
use Rattle.bit_gates.specs.Gates.{signal_at}
use Rattle.bit_gates.specs.Grown.{Means}
use Rattle.bit_gates.proofs.GrowthLemmas.{grows-on}
use Rattle.bit_gates.proofs.CompareLemmas.{none-step}
use Rattle.bit_gates.proofs.compare.none_of.Goals as goal

pub loop-i-preserved : goal.loop-i-preserved
loop-i-preserved c = record {
  grows = grows-on _ _ _ c.loop-i.invariant.grows c.and.ensures.grows;
  means = none-step c.args.gates.now c.loop-i.gates c.and.new.self c.args.a.now c.loop-i.i c.signal-x.result c.loop-i.all c.in_ok-all.all c.loop-i.invariant.grows c.requires c.signal-x.ensures c.loop-i.invariant.means
      (subst (λ o. Means c.and.new.self c.in_ok-all.all (λ v. signal_at v c.loop-i.gates c.loop-i.all && signal_at v c.loop-i.gates o)) c.complement.ensures c.in_ok-all.ensures.value);
}
