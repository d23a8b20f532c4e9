use Rattle.std.proofs.Common.{◌≡◌, [], length, take}
use Rattle.sat_core.specs.Storing.{Stores}
use Rattle.sat_core.proofs.storing.store.Given as goal

abbrev pub invariant-loop-clause : goal.invariant-loop-clause
invariant-loop-clause l = (l.marks ≡ []) × Stores (take l.clause-index l.clauses) l.stored.items l.lists (length l.fn.lists)
