use Rattle.std.proofs.Common.{◌≡◌, map, drop}
use Rattle.operator_names.specs.Names.{named}
use Rattle.operator_names.proofs.names.named.Given as goal

abbrev pub invariant-loop-k : goal.invariant-loop-k
invariant-loop-k g l = named (drop l.k (map (λ e. (e.0.now, e.1)) l.table)) l.word ≡ named (map (λ e. (e.0.now, e.1)) l.table) l.word
