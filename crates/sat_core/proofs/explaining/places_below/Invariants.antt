use Rattle.sat_core.specs.Deriving.{ArePlaces}
use Rattle.sat_core.proofs.explaining.places_below.Given as goal

abbrev pub invariant-loop-place : goal.invariant-loop-place
invariant-loop-place l = ArePlaces l.places.items l.place
