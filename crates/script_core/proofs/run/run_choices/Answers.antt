use Rattle.std.proofs.Common.{◌∙◌, ap, sym}
use Rattle.knox_words.specs.Lists.{Words}
use Rattle.script_core.specs.Runs.{reach, end_of, course_at, segments_of}
use Rattle.script_core.proofs.Reaching.{run-end_of_reach}
use Rattle.script_core.proofs.run.run_choices.Goals as goal

pub returns : goal.returns
returns c =
    let v = c.args.dev.now in
    let t = course_at (segments_of v.circuit v.spec v.driver v.emulator c.args.sc.now) c.args.g.0 in
    c.end_at.ensures ∙ (ap end_of (c.in_ok-end.ensures.run ∙ ap (λ (ws : Words). reach t ws) c.as_slice.ensures) ∙ sym (run-end_of_reach t c.args.ch.now.words))
