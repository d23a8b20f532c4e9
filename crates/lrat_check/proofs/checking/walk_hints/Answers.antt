use Rattle.std.proofs.Common.{◌≡◌, ◌∙◌, ap, rules, get_or, sym, Ok, Err, subst, arith}
use Rattle.std.specs.Prelude.{pos, unsigned_abs}
use Rattle.lrat_check.specs.Hints.{Takes}
use Rattle.lrat_check.specs.Derivations.{live_clause}
use Rattle.lrat_check.proofs.HintSteps.{hint-more, hint-Err, Extends-then}
use Rattle.lrat_check.proofs.checking.walk_hints.Goals as goal

pub loop-hint-preserved : goal.loop-hint-preserved
loop-hint-preserved c =
    let e : c.unsigned_abs-id.result ≡ unsigned_abs (get_or c.args.hints.now c.loop-hint.hint-index (pos 0)) = search rules in
    record {
      left = c.loop-hint.invariant.left ∙ hint-more (live_clause c.args.database.now) c.loop-hint.marks c.take_hint.new.marks c.args.hints.now c.loop-hint.hint-index c.unsigned_abs-id.result (omega arith) e c.take_hint.result c.take_hint.ensures.takes (c.in-Ok-false.is ∙ ap (λ b. Ok b) c.in-Ok-false.field-0-test);
      more = Extends-then _ _ _ c.loop-hint.invariant.more c.take_hint.ensures.more;
    }

pub returns-in-Err-clause-takes : goal.returns-in-Err-clause-takes
returns-in-Err-clause-takes c =
    let e : c.unsigned_abs-id.result ≡ unsigned_abs (get_or c.args.hints.now c.loop-hint.hint-index (pos 0)) = search rules in
    subst (λ w. Takes w (Err c.in-Err.step) c.take_hint.new.marks) (sym c.loop-hint.invariant.left) (hint-Err (live_clause c.args.database.now) c.loop-hint.marks c.take_hint.new.marks c.args.hints.now c.loop-hint.hint-index c.unsigned_abs-id.result c.in-Err.step (omega arith) e c.take_hint.result c.take_hint.ensures.takes c.in-Err.is)
