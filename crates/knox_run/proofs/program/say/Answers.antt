use Rattle.knox_run.proofs.RunsLemmas.{delivers-as}
use Rattle.knox_run.proofs.WritingLemmas.{delivers-none}
use Rattle.knox_run.proofs.program.say.Goals as goal

pub returns-in-Ok : goal.returns-in-Ok
returns-in-Ok g c = delivers-as _ _ _ _ _ _ c.deliver.result _ _ _ _ c.in-Ok.ensures.out c.in-Ok.ensures.err c.in-Ok.ensures.status c.deliver.ensures

pub returns-in-Err : goal.returns-in-Err
returns-in-Err g c = delivers-none _ (g.O.Sink.told c.args.out.now) (g.E.Sink.told c.args.err.now) _ _
