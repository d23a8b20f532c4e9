use Rattle.std.proofs.Common.{refl}
use Rattle.knox_theory.specs.Course.{Failed}
use Rattle.script_core.specs.Runs.{end_said}
use Rattle.pin_store.specs.Store.{leaked}
use Rattle.pin_store.specs.Hinted.{chosen}
use Rattle.pin_store.proofs.Hinting.{plain_right}
use Rattle.pin_store.proofs.Running.{leak-run}
use Rattle.pin_store.proofs.Programs.{program-run, program-ends}
use Rattle.pin_store.proofs.program.cuts_are_run.Goals as goal

pub returns-clause-run : goal.returns-clause-run
returns-clause-run c w output store same = program-run c.args.dev.now c.args.sc.now 1 c.args.ch.now.words (end_said c.in_ok-end.end) c.in_ok-end.ensures w output store same

pub returns-clause-leak : goal.returns-clause-leak
returns-clause-leak c store same is =
    program-ends c.args.dev.now c.args.sc.now 1 c.args.ch.now.words (end_said c.in_ok-end.end) c.in_ok-end.ensures 4 leaked (chosen 0 0 0 0 0 0) (Failed 3) store same is
    (leak-run plain_right 1 (chosen 0 0 0 0 0 0) (Failed 3) refl)
