use Rattle.std.proofs.Common.{◌∙◌, sym}
use Rattle.script_core.proofs.Parting.{parting-known, parting-taken, parting-done}
use Rattle.script_core.proofs.run.take_part.Goals as goal
use Rattle.script_core.proofs.run.take_part.Goals.{in-Some-first_known+in_ok-push, in_default-first_known+in-Some-split_first+else-not-has_width+in_ok-push-2}

pub loop-width-preserved : goal.loop-width-preserved
loop-width-preserved c = elim c.match-first_known.branch [
  | in-Some-first_known+in_ok-push w ↦
      parting-known _ _ _ c.loop-width.known_left.now _ w.in-Some-first_known.word c.loop-width.wanted.now c.in-Some.width.now _ c.loop-width.into _ c.loop-width.left.now _ c.in-Some.ensures.cases.0
      (sym c.first_known.ensures ∙ w.in-Some-first_known.is)
      c.other_known-known_left.ensures
      (w.into-is ∙ w.in_ok-push.ensures.ok)
      (λ i. (w.left-is i).now)
      c.loop-width.invariant
  | in_default-first_known+in-Some-split_first+else-not-has_width+in_ok-push-2 w ↦
      parting-taken _ _ _ c.loop-width.known_left.now _ c.loop-width.wanted.now c.in-Some.width.now _ c.loop-width.into _ c.loop-width.left.now _ w.in-Some-split_first.word.now w.in-Some-split_first.more.now c.in-Some.ensures.cases.0
      (sym c.first_known.ensures ∙ w.in_default-first_known.is)
      c.other_known-known_left.ensures
      w.in-Some-split_first.ensures.cases.0
      (sym w.has_width.ensures ∙ w.if-not-has_width.false)
      (w.into-is ∙ w.in_ok-push-2.ensures.ok)
      (λ i. (w.left-is i).now)
      c.loop-width.invariant
]

pub returns : goal.returns
returns c = parting-done _ _ _ _ _ _ _ c.in_default.ensures.cases c.loop-width.invariant
