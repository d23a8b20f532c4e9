use Rattle.knox_run.proofs.SolvedLemmas.{within-of}
use Rattle.knox_run.proofs.solving.solve_text.Goals as goal

pub solve-requires-clause-within : goal.solve-requires-clause-within
solve-requires-clause-within c = within-of c.args.formula.now c.in-Ok.cnf c.in-Ok.ensures
