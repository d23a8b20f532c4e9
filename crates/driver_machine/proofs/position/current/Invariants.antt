use Rattle.std.proofs.Common.{◌≡◌, drop}
use Rattle.driver_machine.specs.Place.{top}
use Rattle.driver_machine.proofs.position.current.Given as goal

abbrev pub invariant-loop-f : goal.invariant-loop-f
invariant-loop-f l = record {
  list : (top l.list l.bound (drop l.f-index l.frames)).list ≡ (top l.fn.ss l.fn.bound l.frames).list;
  bound : (top l.list l.bound (drop l.f-index l.frames)).bound ≡ (top l.fn.ss l.fn.bound l.frames).bound;
}
