use Rattle.std.proofs.Common.{◌≡◌, take, map}
use Rattle.knox_lang.specs.declared.parts.OpHead.{OpHead}
use Rattle.lang_read.specs.Bodies.{empty_body}
use Rattle.lang_read.proofs.calls.empty_bodies.Given as goal

abbrev pub invariant-loop-op : goal.invariant-loop-op
invariant-loop-op l = l.bodies ≡ map (λ (o : OpHead). empty_body) (take l.op-index l.ops)
