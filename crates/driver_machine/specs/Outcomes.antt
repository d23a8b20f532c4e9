-- The outcomes of all tests that a driver still meets, to the end of its body. The project's own.
use Rattle.std.specs.Prelude.{ℕ, List, Bool}
use Rattle.knox_words.specs.Lists.{Words}
use Rattle.knox_theory.specs.Design.{Config}
use Rattle.knox_circuit.specs.Line.{Line}
use Rattle.knox_lang.specs.declared.parts.DriverParts.{DriverParts}
use Rattle.driver_machine.specs.Left.{Left, start}
use Rattle.driver_machine.specs.Moves.{parts_left, steps_tests}

-- from a place on, in order: those of the parts that are left, behind which there are none
abbrev pub tests_left : List Line → DriverParts → Config Left → List Bool
tests_left lines d c = steps_tests lines d (parts_left c.left) c

-- those of an operation's whole body
abbrev pub tests_met : List Line → DriverParts → (op : ℕ) → (args cells : Words) → List Bool
tests_met lines d op args cells = tests_left lines d (start d op args cells)
