use Rattle.std.proofs.Common.{◌≡◌, length}
use Rattle.driver_machine.specs.Place.{items_left}
use Rattle.driver_machine.proofs.settle.settle.Given as goal

abbrev pub invariant-loop-bound : goal.invariant-loop-bound
invariant-loop-bound l = items_left l.body l.pos ≡ items_left l.body l.fn.pos

abbrev pub decreases-loop-bound : goal.decreases-loop-bound
decreases-loop-bound l = length l.pos.frames
