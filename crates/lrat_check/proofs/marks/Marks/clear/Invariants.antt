use Rattle.std.proofs.Common.{◌≡◌, ◌<◌, true, false, get_or, length}
use Rattle.knox_cnf.specs.Literals.{Literal, has}
use Rattle.lrat_check.specs.Marks.{index_of}
use Rattle.lrat_check.proofs.marks.Marks.clear.Given as goal

-- whatever the table still says of a literal, the trail says too
abbrev pub invariant-loop-lit : goal.invariant-loop-lit
invariant-loop-lit l =
    (x : Literal) → index_of x < length l.self-inside.near.items → get_or l.self-inside.near.items (index_of x) false ≡ true → has l.self-inside.trail.items x ≡ true

abbrev pub decreases-loop-lit : goal.decreases-loop-lit
decreases-loop-lit l = length l.self-inside.trail.items
