use Rattle.std.proofs.Common.{◌≡◌, ◌+◌, drop}
use Rattle.expr_read.specs.Views.{headed_count}
use Rattle.expr_read.proofs.views.headed_count.Given as goal

abbrev pub invariant-loop-count : goal.invariant-loop-count
invariant-loop-count l = l.count + headed_count l.word (drop l.count l.trees) ≡ headed_count l.word l.trees
