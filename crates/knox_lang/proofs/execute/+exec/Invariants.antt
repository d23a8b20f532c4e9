use Rattle.std.proofs.Common.{◌≡◌, take}
use Rattle.knox_lang.specs.Eval.{called}
use Rattle.knox_lang.specs.Exec.{does_all, turns}
use Rattle.knox_lang.proofs.execute.+exec.Given as goal

abbrev pub invariant-exec_in-loop-s : goal.invariant-exec_in-loop-s
invariant-exec_in-loop-s g l = record {
  done : (l.spaces, l.asked) ≡ does_all g.row.Q.Denot (called l.funs) (record { reply = g.Q.Queries.reply; after = g.Q.Queries.after }) (take l.s-index l.ss) (l.fn.spaces, l.fn.asked) l.fn.bound;
  bound : l.bound ≡ l.fn.bound;
}

abbrev pub invariant-exec_turns-loop-k : goal.invariant-exec_turns-loop-k
invariant-exec_turns-loop-k g l = record {
  done : (l.spaces, l.asked) ≡ turns g.row.Q.Denot (does_all g.row.Q.Denot (called l.funs) (record { reply = g.Q.Queries.reply; after = g.Q.Queries.after }) l.ss) l.width l.k (l.fn.spaces, l.fn.asked) l.fn.bound;
  bound : l.bound ≡ l.fn.bound;
}
