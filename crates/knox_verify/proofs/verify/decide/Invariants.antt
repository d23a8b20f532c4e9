use Rattle.knox_verify.specs.{Words.segments, Judgements.parts_of, Judgements.design, Judgements.hints}
use Rattle.knox_verify.proofs.Deciding.{HoldBelow}
use Rattle.knox_verify.proofs.verify.decide.Given as goal

abbrev pub invariant-loop-g : goal.invariant-loop-g
invariant-loop-g l = HoldBelow (segments (design (parts_of l.dev l.sc)) (hints (parts_of l.dev l.sc))) l.g
