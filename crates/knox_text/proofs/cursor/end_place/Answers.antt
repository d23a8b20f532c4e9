use Rattle.std.proofs.Common.{◌∙◌}
use Rattle.knox_text.proofs.Placing.{at-end}
use Rattle.knox_text.proofs.cursor.end_place.Goals as goal

pub returns : goal.returns
returns c =
    c.place.ensures.value ∙ at-end c.loop-cursor.cursor.at c.loop-cursor.cursor.rest c.peek.result c.is_some.result c.peek.ensures c.is_some.ensures c.loop-cursor-test.false ∙ c.loop-cursor.invariant
