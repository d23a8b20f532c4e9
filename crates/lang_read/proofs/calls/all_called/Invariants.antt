use Rattle.std.proofs.Common.{◌≡◌, drop}
use Rattle.lang_read.specs.Calls.{all_called}
use Rattle.lang_read.proofs.calls.all_called.Given as goal

abbrev pub invariant-loop-op : goal.invariant-loop-op
invariant-loop-op l = all_called (drop l.op-index l.ops) l.trees ≡ all_called l.ops l.trees
