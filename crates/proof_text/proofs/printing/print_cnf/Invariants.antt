use Rattle.std.proofs.Common.{◌≡◌, ◌++◌, take, length}
use Rattle.std.specs.Prelude.{flat_map}
use Rattle.proof_text.specs.Printing.{clause_shown, header_shown}
use Rattle.proof_text.proofs.printing.print_cnf.Given as goal

abbrev pub invariant-loop-clause : goal.invariant-loop-clause
invariant-loop-clause l = l.out ≡ header_shown l.cnf.vars (length l.cnf.clauses) ++ flat_map clause_shown (take l.clause-index l.cnf.clauses)
