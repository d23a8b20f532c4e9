use Rattle.std.proofs.Common.{sym, ap, ◌∙◌}
use Rattle.lang_read.proofs.Filled.{put_all, put-all, put-last}
use Rattle.lang_read.proofs.entries.filled.Goals as goal

pub loop-entry-init : goal.loop-entry-init
loop-entry-init g c = put-all c.args.things c.args.entries

pub loop-entry-preserved : goal.loop-entry-preserved
loop-entry-preserved g c =
    rw c.put.ensures (sym (put-last c.loop-entry.filled c.pop.new.self c.in-Some.entry) ∙ ap (put_all c.loop-entry.filled) (sym c.in-Some.ensures) ∙ c.loop-entry.invariant)
