use Rattle.std.proofs.Common.{◌≡◌, length}
use Rattle.lang_read.specs.Entries.{filled}
use Rattle.lang_read.proofs.Filled.{put_all}
use Rattle.lang_read.proofs.entries.filled.Given as goal

abbrev pub invariant-loop-entry : goal.invariant-loop-entry
invariant-loop-entry g l = put_all l.filled l.left ≡ filled l.fn.entries l.fn.things

abbrev pub decreases-loop-entry : goal.decreases-loop-entry
decreases-loop-entry g l = length l.left
