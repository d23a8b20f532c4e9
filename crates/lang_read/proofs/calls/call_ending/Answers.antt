use Rattle.std.proofs.Common.{rules}
use Rattle.lang_read.proofs.Endings.{ending-is}
use Rattle.lang_read.proofs.calls.call_ending.Goals as goal

pub returns-then-not-is_headed-clause-read : goal.returns-then-not-is_headed-clause-read
returns-then-not-is_headed-clause-read c =
    rw (ending-is c.args.ending.now c.last-item.result c.in-len1-up.len_at_least c.last-item.is) (search rules)

pub returns-else-not-is_headed-clause-read : goal.returns-else-not-is_headed-clause-read
returns-else-not-is_headed-clause-read c =
    rw (ending-is c.args.ending.now c.last-item.result c.in-len1-up.len_at_least c.last-item.is) (search rules)
