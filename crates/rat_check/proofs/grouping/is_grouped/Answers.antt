use Rattle.std.proofs.Common.{◌∙◌}
use Rattle.rat_check.proofs.GroupLemmas.{grouped-any}
use Rattle.rat_check.proofs.grouping.is_grouped.Goals as goal

pub returns : goal.returns
returns c = c.any_begins.ensures ∙ grouped-any c.args.hints.now c.args.id
