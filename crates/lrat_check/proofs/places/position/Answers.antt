use Rattle.std.proofs.Common.{Ok, Err, sym}
use Rattle.std.proofs.lemmas.List.Sorted.{searched}
use Rattle.lrat_check.proofs.PlaceLemmas.{place_in-at, place_in-none, Rises-weak, found_apart}
use Rattle.lrat_check.proofs.places.position.Goals as goal

pub returns-then-stands_at-clause-value : goal.returns-then-stands_at-clause-value
returns-then-stands_at-clause-value c =
    let found = c.stands_at.ensures c.if-stands_at.true in
    sym (place_in-at c.args.ids.now c.distance-at.result c.args.id c.requires found.0 found.1)

pub returns-in-Ok-clause-value : goal.returns-in-Ok-clause-value
returns-in-Ok-clause-value c =
    let found = searched c.args.ids.now c.args.id (Ok c.in-Ok.at) c.in-Ok.ensures.position (Rises-weak c.args.ids.now c.requires) in
    sym (place_in-at c.args.ids.now c.in-Ok.at c.args.id c.requires found.0 found.1)

pub returns-in-Err-clause-value : goal.returns-in-Err-clause-value
returns-in-Err-clause-value c =
    let found = searched c.args.ids.now c.args.id (Err c.in-Err.field-0) c.in-Err.ensures.position (Rises-weak c.args.ids.now c.requires) in
    sym (place_in-none c.args.ids.now c.args.id (found_apart c.args.ids.now c.in-Err.field-0 c.args.id found.1 found.2))
