use Rattle.std.proofs.Common.{ap}
use Rattle.knox_run.specs.Words.{bytes_of}
use Rattle.knox_run.specs.Runs.{Seen, Ends, seen}
use Rattle.knox_run.proofs.RunsLemmas.{ends-by}
use Rattle.knox_run.proofs.ConsequencesLemmas.{says-yes, says-closed, says-one-meaning, says-usage, complete, complete-yes, tells-first-fault, goes-through, explained, asks-prefix}
use Rattle.knox_run.proofs.program.run.Goals as goal

pub returns : goal.returns
returns g c =
    let s : Seen = seen (bytes_of c.args.words.now.items.items) (g.F.Shelf.history c.args.shelf.now) (g.F.Shelf.history c.work-outcome.new.shelf)
    (g.O.Sink.told c.args.out.now) (g.O.Sink.told c.say.new.out) (g.E.Sink.told c.args.err.now) (g.E.Sink.told c.say.new.err) c.say.result in
    let ends : Ends s =
    ends-by (bytes_of c.args.words.now.items.items) (bytes_of c.as_slice-words.result.now) _ _ _ c.work-outcome.result c.say.result _ _ _ _
    (ap bytes_of c.as_slice-words.ensures.value) c.text_names.ensures c.work-outcome.ensures c.say.ensures in
    record { yes = says-yes s ends; closed = says-closed s ends; one_meaning = says-one-meaning s ends; complete = complete s ends; complete_yes = complete-yes s ends; first_fault = tells-first-fault s ends; unhindered = goes-through s ends; usage = says-usage s ends; names = asks-prefix s ends; ends = ends; explained = explained s ends }
