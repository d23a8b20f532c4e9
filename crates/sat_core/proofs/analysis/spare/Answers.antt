use Rattle.std.proofs.Common.{◌≡◌, ◌≤◌, ◌+◌, ◌-◌, ◌<◌, ℕ, length, sym, ◌∙◌, ap, arith}
use Rattle.std.proofs.lemmas.List.{length-replicate}
use Rattle.sat_core.proofs.Resolving.{spared-start, spared-pass, spared-move, spared-left}
use Rattle.sat_core.proofs.analysis.spare.Goals as goal

pub loop-q-init : goal.loop-q-init
loop-q-init c = (
  omega arith,
  spared-start c.args.stored.now c.args.trail.now c.args.reasons.now c.args.marks.now c.in_ok-left.left c.args.end c.args.cone.now.items (ap length c.in_ok-left.ensures ∙ length-replicate c.len.result _ ∙ c.len.ensures) c.requires.falling c.requires.high,
)

minus-back : (i : ℕ) → 0 < i → i ≡ (i - 1) + 1
minus-back i h = omega (arith, h)

less : (i n : ℕ) → 0 < i → i ≤ n → i - 1 < n
less i n h k = omega (arith, h, k)

less-or : (i n : ℕ) → 0 < i → i ≤ n → i - 1 ≤ n
less-or i n h k = omega (arith, h, k)

pub loop-q-preserved-then-not-holds : goal.loop-q-preserved-then-not-holds
loop-q-preserved-then-not-holds c = (
  less-or c.loop-q.q c.args.end c.loop-q-test.true c.loop-q.invariant.0,
  spared-pass c.args.stored.now c.args.trail.now c.args.reasons.now c.args.marks.now c.loop-q.left c.args.end c.loop-q.q (c.loop-q.q - 1) c.args.cone.now.items c.loop-q.cone.items (minus-back c.loop-q.q c.loop-q-test.true) (sym c.holds.ensures ∙ c.if-not-holds.true) c.loop-q.invariant.1,
)

pub loop-q-preserved-then-is_spare : goal.loop-q-preserved-then-is_spare
loop-q-preserved-then-is_spare c = (
  less-or c.loop-q.q c.args.end c.loop-q-test.true c.loop-q.invariant.0,
  spared-move c.args.stored.now c.args.trail.now c.args.reasons.now c.args.marks.now c.loop-q.left c.args.end c.loop-q.q (c.loop-q.q - 1) c.args.cone.now.items c.loop-q.cone.items c.push.new.self.items (minus-back c.loop-q.q c.loop-q-test.true) (less c.loop-q.q c.args.end c.loop-q-test.true c.loop-q.invariant.0) (c.is_spare.ensures c.if-is_spare.true) c.in_ok-push.ensures.items c.loop-q.invariant.1,
)

pub loop-q-preserved : goal.loop-q-preserved
loop-q-preserved c = (
  less-or c.loop-q.q c.args.end c.loop-q-test.true c.loop-q.invariant.0,
  spared-left c.args.stored.now c.args.trail.now c.args.reasons.now c.args.marks.now c.loop-q.left c.mark.new.self c.args.end c.loop-q.q (c.loop-q.q - 1) c.args.cone.now.items c.loop-q.cone.items (minus-back c.loop-q.q c.loop-q-test.true) (let h = c.requires.end in let k = less c.loop-q.q c.args.end c.loop-q-test.true c.loop-q.invariant.0 in omega (arith, h, k)) c.mark.ensures c.loop-q.invariant.1,
)
