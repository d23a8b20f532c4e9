use Rattle.std.proofs.Common.{refl, true, false, [], ap, ◌∙◌}
use Rattle.knox_words.specs.Bits.{bits}
use Rattle.knox_theory.specs.Device.{Replied}
use Rattle.knox_theory.specs.Design.{Config}
use Rattle.knox_lang.specs.Scope.{scope}
use Rattle.knox_lang.specs.Eval.{Value}
use Rattle.driver_machine.specs.Sight.{sight}
use Rattle.driver_machine.specs.Left.{Left, Over}
use Rattle.driver_machine.specs.Slow.{cells}
use Rattle.driver_machine.proofs.Computed.{value-lit}
use Rattle.driver_machine.proofs.Walked.{idle, here, waits-to, waits-met}
use Rattle.driver_machine.proofs.examples.tests_are_met.Goals as goal

pub returns-clause-stuck : goal.returns-clause-stuck
returns-clause-stuck c = waits-met (cells 9 0 1) true refl

pub returns-clause-over : goal.returns-clause-over
returns-clause-over c = ap (λ (x : Config Left). x.left) (waits-to (cells 9 0 1) true refl)

pub returns-clause-ready : goal.returns-clause-ready
returns-clause-ready c = waits-met (cells 9 0 0) false refl

pub returns-clause-done : goal.returns-clause-done
returns-clause-done c = ap (λ (x : Config Left). x.left) (waits-to (cells 9 0 0) false refl) ∙ ap (λ (v : Value). Over (Replied (v (scope (sight (idle (cells 9 0 0)) (here (cells 9 0 0))) [])))) (value-lit (idle (cells 9 0 0)) (bits 1 1))
