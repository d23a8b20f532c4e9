use Rattle.std.proofs.Common.{◌≡◌, ◌++◌, take, codes}
use Rattle.knox_run.specs.Solving.{values_from}
use Rattle.knox_run.proofs.solving.model_lines.Given as goal

abbrev pub invariant-loop-place : goal.invariant-loop-place
invariant-loop-place l = l.text.items ≡ codes "sat\nv" ++ values_from 1 (take l.place l.values)
