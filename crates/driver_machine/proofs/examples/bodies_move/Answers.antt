use Rattle.std.proofs.Common.{refl, ap, ◌∙◌}
use Rattle.knox_words.specs.Bits.{bits}
use Rattle.knox_theory.specs.Design.{Config}
use Rattle.driver_machine.specs.Left.{Left, ended, reply}
use Rattle.driver_machine.specs.Moves.{move}
use Rattle.driver_machine.specs.Slow.{store, cells, driver}
use Rattle.driver_machine.proofs.Walked.{ticked, quick-moves, quick-replies}
use Rattle.driver_machine.proofs.examples.bodies_move.Goals as goal

pub returns-clause-ticked : goal.returns-clause-ticked
returns-clause-ticked c = ap (λ (x : Config Left). x.cells) quick-moves ∙ refl

pub returns-clause-going : goal.returns-clause-going
returns-clause-going c = ap ended quick-moves

pub returns-clause-told : goal.returns-clause-told
returns-clause-told c = ap (λ (x : Config Left). reply (move store (driver 1) x).left) quick-moves ∙ quick-replies ticked (bits 1 1) refl

pub returns-clause-changed : goal.returns-clause-changed
returns-clause-changed c =
    ap (λ (x : Config Left). reply (move store (driver 1) (record x { cells = cells 9 0 1 })).left) quick-moves ∙ quick-replies (record ticked { cells = cells 9 0 1 }) (bits 1 0) refl
