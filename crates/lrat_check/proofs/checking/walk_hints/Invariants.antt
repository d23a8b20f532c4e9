use Rattle.std.proofs.Common.{◌≡◌, drop}
use Rattle.lrat_check.specs.Marks.{Extends}
use Rattle.lrat_check.specs.Hints.{after_hints}
use Rattle.lrat_check.specs.Derivations.{live_clause}
use Rattle.lrat_check.proofs.checking.walk_hints.Given as goal

-- what is left of the hints gives what all give
abbrev pub invariant-loop-hint : goal.invariant-loop-hint
invariant-loop-hint l =
    let clause = live_clause l.database in record {
      left : after_hints clause l.initial.marks l.hints ≡ after_hints clause l.marks (drop l.hint-index l.hints);
      more : Extends l.initial.marks l.marks;
    }
