use Rattle.std.proofs.Common.{refl}
use Rattle.knox_theory.specs.Course.{Failed, Held}
use Rattle.script_core.specs.Runs.{end_said}
use Rattle.pin_store.specs.Store.{leaked, shown}
use Rattle.pin_store.specs.Hinted.{called}
use Rattle.pin_store.proofs.Hinting.{plain_right}
use Rattle.pin_store.proofs.Running.{leak-run, store-run}
use Rattle.pin_store.proofs.Programs.{program-run, program-ends}
use Rattle.pin_store.proofs.program.calls_are_run.Goals as goal

pub returns-clause-run : goal.returns-clause-run
returns-clause-run c w output store same = program-run c.args.dev.now c.args.sc.now 7 c.args.ch.now.words (end_said c.in_ok-end.end) c.in_ok-end.ensures w output store same

pub returns-clause-right : goal.returns-clause-right
returns-clause-right c store same is =
    program-ends c.args.dev.now c.args.sc.now 7 c.args.ch.now.words (end_said c.in_ok-end.end) c.in_ok-end.ensures 4 shown (called 9 9 0 9) Held store same is
    (store-run plain_right 7 (called 9 9 0 9) Held refl)

pub returns-clause-leak : goal.returns-clause-leak
returns-clause-leak c store same is =
    program-ends c.args.dev.now c.args.sc.now 7 c.args.ch.now.words (end_said c.in_ok-end.end) c.in_ok-end.ensures 4 leaked (called 8 8 0 3) (Failed 10) store same is
    (leak-run plain_right 7 (called 8 8 0 3) (Failed 10) refl)
