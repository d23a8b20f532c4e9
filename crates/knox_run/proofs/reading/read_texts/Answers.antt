use Rattle.std.proofs.Common.{arith}
use Rattle.std.proofs.lemmas.Grind.{common_steps}
use Rattle.knox_run.proofs.ReadSteps.{ReadWhole-next}
use Rattle.knox_run.proofs.reading.read_texts.Goals as goal

pub loop-which-preserved : goal.loop-which-preserved
loop-which-preserved g c = (
  ReadWhole-next c.args.names.now c.loop-which.which c.index-names-which.result c.as_slice.result.now _ _ _ c.in-Ok.place
      c.loop-which-test.true c.index-names-which.is c.as_slice.ensures.value c.loop-which.invariant.0
      c.in-Ok.ensures.asks c.in-Ok.ensures.gives c.in-Ok.ensures.faults,
  grind (arith, common_steps),
)
