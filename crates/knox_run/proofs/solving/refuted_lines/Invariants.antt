use Rattle.std.proofs.Common.{◌≡◌, ◌++◌, take, codes}
use Rattle.std.specs.List.{flat_map}
use Rattle.knox_run.specs.Solving.{lemma_shown}
use Rattle.knox_run.proofs.solving.refuted_lines.Given as goal

abbrev pub invariant-loop-lemma : goal.invariant-loop-lemma
invariant-loop-lemma l = l.text.items ≡ codes "c unsat\n" ++ flat_map lemma_shown (take l.lemma-index l.lemmas)
