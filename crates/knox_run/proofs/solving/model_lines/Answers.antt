use Rattle.knox_run.proofs.SolvingLemmas.{values-next}
use Rattle.knox_run.proofs.solving.model_lines.Goals as goal

pub loop-place-preserved : goal.loop-place-preserved
loop-place-preserved c =
    values-next c.args.values.now c.loop-place.place c.loop-place.text.items c.as_bytes.result.now _ c.loop-place-test.true c.in_ok-extend_from_slice.ensures.items
    (rw c.as_bytes.ensures.value c.in_ok-spaced.ensures) c.loop-place.invariant
