use Rattle.std.proofs.Common.{◌∙◌, ap}
use Rattle.knox_words.specs.Lists.{Words}
use Rattle.knox_theory.specs.Device.{Reply}
use Rattle.knox_theory.specs.Design.{Config}
use Rattle.driver_machine.specs.Left.{Left, start}
use Rattle.driver_machine.specs.Configs.{said}
use Rattle.driver_machine.specs.Means.{means}
use Rattle.driver_machine.proofs.Meaning.{start-means}
use Rattle.driver_machine.proofs.whole.drive.Goals as goal

pub returns-clause-reply : goal.returns-clause-reply
returns-clause-reply c =
    let d = c.args.d.now in
    let lines = c.args.c.now.lines in
    let words = c.args.s.now.words in
    let begun = c.in_ok-config.ensures.config ∙ ap (start d c.args.op c.args.args.now) c.in_ok-words.ensures in
    c.in_ok-reply.ensures.reply
    ∙ (ap (λ (x : Config Left). said (means lines d x).0) begun ∙ ap (λ (r : Reply × Words). said r.0) (start-means lines d c.args.op c.args.args.now words))

pub returns-clause-state : goal.returns-clause-state
returns-clause-state c =
    let d = c.args.d.now in
    let lines = c.args.c.now.lines in
    let words = c.args.s.now.words in
    let begun = c.in_ok-config.ensures.config ∙ ap (start d c.args.op c.args.args.now) c.in_ok-words.ensures in
    c.into_state.ensures
    ∙ (c.in_ok-reply.ensures.cells
    ∙ (ap (λ (x : Config Left). (means lines d x).1) begun ∙ ap (λ (r : Reply × Words). r.1) (start-means lines d c.args.op c.args.args.now words)))
