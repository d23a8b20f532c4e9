use Rattle.sat_core.specs.Models.{TellsValues}
use Rattle.sat_core.proofs.exploring.values.Given as goal

abbrev pub invariant-loop-before : goal.invariant-loop-before
invariant-loop-before l = TellsValues l.trail l.before l.values
