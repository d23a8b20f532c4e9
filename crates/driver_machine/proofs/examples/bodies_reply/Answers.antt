use Rattle.std.proofs.Common.{refl, [], ◌∷◌}
use Rattle.knox_words.specs.Bits.{bits}
use Rattle.driver_machine.specs.Slow.{cells}
use Rattle.driver_machine.proofs.Computed.{set-replies, check-replies}
use Rattle.driver_machine.proofs.examples.bodies_reply.Goals as goal

pub returns-clause-stuck : goal.returns-clause-stuck
returns-clause-stuck c = set-replies 0 (bits 4 9 ∷ []) (cells 0 0 0) _ refl

pub returns-clause-asked : goal.returns-clause-asked
returns-clause-asked c = check-replies 0 (bits 4 9 ∷ []) (cells 9 0 0) _ refl

pub returns-clause-set : goal.returns-clause-set
returns-clause-set c = set-replies 1 (bits 4 9 ∷ []) (cells 0 0 0) _ refl

pub returns-clause-right : goal.returns-clause-right
returns-clause-right c = check-replies 1 (bits 4 9 ∷ []) (cells 9 0 0) _ refl

pub returns-clause-wrong : goal.returns-clause-wrong
returns-clause-wrong c = check-replies 1 (bits 4 3 ∷ []) (cells 9 0 0) _ refl

pub returns-clause-early : goal.returns-clause-early
returns-clause-early c = check-replies 5 (bits 4 9 ∷ []) (cells 9 0 0) _ refl
